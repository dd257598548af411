-- Words of four bytes among bytes, and floats by their bit patterns. A block record has the highest byte first (document 01, 'Block
-- record'), an STL file the lowest (document 02, [1]). A NaN has one pattern here, 0x7fc00000. Definitions only.
use Rattle.std.specs.Prelude.{ℕ, ◌+◌, ◌*◌, ◌/◌, ◌%◌, List, [], ◌∷◌, Float, get_or}
use Rattle.std.specs.Float.Ieee as Ieee
use Rattle.std.specs.Float.{binary32}

-- ---- the highest byte first

unfoldable pub word_at : List ℕ → ℕ → ℕ
word_at bytes at =
    16777216 * get_or bytes at 0 + 65536 * get_or bytes (at + 1) 0 + 256 * get_or bytes (at + 2) 0 + get_or bytes (at + 3) 0

unfoldable pub word_bytes : ℕ → List ℕ
word_bytes w = w / 16777216 % 256 ∷ w / 65536 % 256 ∷ w / 256 % 256 ∷ w % 256 ∷ []

abbrev pub float_at : List ℕ → ℕ → Float
float_at bytes at = Ieee.of_bits binary32 (word_at bytes at)

abbrev pub float_bytes : Float → List ℕ
float_bytes x = word_bytes (Ieee.to_bits binary32 x)

-- ---- the lowest byte first

unfoldable pub little_at : List ℕ → ℕ → ℕ
little_at bytes at =
    get_or bytes at 0 + 256 * get_or bytes (at + 1) 0 + 65536 * get_or bytes (at + 2) 0 + 16777216 * get_or bytes (at + 3) 0

unfoldable pub little_bytes : ℕ → List ℕ
little_bytes w = w % 256 ∷ w / 256 % 256 ∷ w / 65536 % 256 ∷ w / 16777216 % 256 ∷ []

abbrev pub little_float_at : List ℕ → ℕ → Float
little_float_at bytes at = Ieee.of_bits binary32 (little_at bytes at)

abbrev pub little_float_bytes : Float → List ℕ
little_float_bytes x = little_bytes (Ieee.to_bits binary32 x)
