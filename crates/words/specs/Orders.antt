-- Words of four bytes among bytes, taken out and put back: the laws of an order of bytes, which both orders obey. Assumes nothing.
use Rattle.std.specs.Prelude.{ℕ, suc, ◌+◌, ◌*◌, ◌/◌, ◌%◌, ◌^◌, ◌≤◌, ◌<◌, ◌≡◌, refl, List, [], ◌∷◌, ◌++◌, length, get_or, take, drop}
use Rattle.std.proofs.Common.{add-one, arith, sym, drop-cons, get_or-append-add}
use Rattle.std.proofs.Math.Numerals.{add-two, add-three}
use Rattle.std.proofs.Math.Seq.{get_or-append_seam}
use Rattle.model.specs.Words.{word_at, word_bytes, little_at, little_bytes}

-- each is below 256, as those of a slice of u8 are; past the end it is 0
abbrev pub Bytes : List ℕ → Type 0
Bytes bytes = (k : ℕ) → get_or bytes k 0 < 256

pub record Order : Type 0 where
  -- the word that begins at a place, and the bytes of a word
  pub at : List ℕ → ℕ → ℕ
  pub bytes : ℕ → List ℕ
  pub four : (w : ℕ) → length (bytes w) ≡ 4
  pub small : (l : List ℕ) → Bytes l → (i : ℕ) → at l i < 2 ^ 32
  -- a word that is read is put back as the bytes that stand there
  pub back : (l : List ℕ) → Bytes l → (i : ℕ) → i + 4 ≤ length l → bytes (at l i) ≡ take 4 (drop i l)
  -- a word whose bytes stand after p is read
  pub after : (p q : List ℕ) (w : ℕ) → w < 2 ^ 32 → at (p ++ (bytes w ++ q)) (length p) ≡ w

-- ---- what both orders rest on

abbrev Digits : ℕ → ℕ → ℕ → ℕ → ℕ → Type 0
Digits a b c d w = (w / 16777216 % 256 ≡ a) × (w / 65536 % 256 ≡ b) × (w / 256 % 256 ≡ c) × (w % 256 ≡ d)

digits : (a b c d w : ℕ) → a < 256 → b < 256 → c < 256 → d < 256 → w ≡ 16777216 * a + 65536 * b + 256 * c + d → Digits a b c d w
digits a b c d w ha hb hc hd e = (omega arith, omega arith, omega arith, omega arith)

whole : (w : ℕ) → w < 2 ^ 32 → 16777216 * (w / 16777216 % 256) + 65536 * (w / 65536 % 256) + 256 * (w / 256 % 256) + w % 256 ≡ w
whole w h =
    let top : w / 16777216 % 256 ≡ w / 16777216 = omega arith in
    rw top (omega arith)

there : (bytes : List ℕ) (at : ℕ) → at + 4 ≤ length bytes → take 4 (drop at bytes) ≡ get_or bytes at 0 ∷ get_or bytes (at + 1) 0 ∷ get_or bytes (at + 2) 0 ∷ get_or bytes (at + 3) 0 ∷ []
there bytes at h =
    rw (
      add-one,
      add-two,
      add-three,
      drop-cons bytes at 0 (omega arith),
      drop-cons bytes (suc at) 0 (omega arith),
      drop-cons bytes (suc (suc at)) 0 (omega arith),
      drop-cons bytes (suc (suc (suc at))) 0 (omega arith),
    )

-- ---- the highest byte first

pub word_lt : (bytes : List ℕ) → Bytes bytes → (at : ℕ) → word_at bytes at < 2 ^ 32
unfolding word_at
word_lt bytes small at = omega (arith, small at, small (at + 1), small (at + 2), small (at + 3))

pub word_back : (bytes : List ℕ) → Bytes bytes → (at : ℕ) → at + 4 ≤ length bytes → word_bytes (word_at bytes at) ≡ take 4 (drop at bytes)
unfolding word_at word_bytes
word_back bytes small at h =
    let e =
    digits (get_or bytes at 0) (get_or bytes (at + 1) 0) (get_or bytes (at + 2) 0) (get_or bytes (at + 3) 0) (word_at bytes at) (small at) (small (at + 1))
    (small (at + 2)) (small (at + 3)) refl in
    rw (e.0, e.1, e.2, e.3) (sym (there bytes at h))

pub word_after : (p q : List ℕ) (w : ℕ) → w < 2 ^ 32 → word_at (p ++ (word_bytes w ++ q)) (length p) ≡ w
unfolding word_at word_bytes
word_after p q w h =
    let r = word_bytes w ++ q in
    rw (get_or-append_seam p (w / 16777216 % 256) (w / 65536 % 256 ∷ w / 256 % 256 ∷ w % 256 ∷ q) 0, get_or-append-add p r 1 0, get_or-append-add p r 2 0, get_or-append-add p r 3 0)
    (whole w h)

pub length_word : (w : ℕ) → length (word_bytes w) ≡ 4
unfolding word_bytes
length_word w = refl

abbrev pub big : Order
big = record { at = word_at; bytes = word_bytes; four = length_word; small = word_lt; back = word_back; after = word_after }

-- ---- the lowest byte first

pub little_lt : (bytes : List ℕ) → Bytes bytes → (at : ℕ) → little_at bytes at < 2 ^ 32
unfolding little_at
little_lt bytes small at = omega (arith, small at, small (at + 1), small (at + 2), small (at + 3))

-- its four bytes, the highest first
little_digits : (bytes : List ℕ) → Bytes bytes → (at : ℕ) → Digits (get_or bytes (at + 3) 0) (get_or bytes (at + 2) 0) (get_or bytes (at + 1) 0) (get_or bytes at 0) (little_at bytes at)
unfolding little_at
little_digits bytes small at =
    digits (get_or bytes (at + 3) 0) (get_or bytes (at + 2) 0) (get_or bytes (at + 1) 0) (get_or bytes at 0) (little_at bytes at) (small (at + 3)) (small (at + 2))
    (small (at + 1)) (small at) (omega arith)

pub little_back : (bytes : List ℕ) → Bytes bytes → (at : ℕ) → at + 4 ≤ length bytes → little_bytes (little_at bytes at) ≡ take 4 (drop at bytes)
unfolding little_bytes
little_back bytes small at h =
    let e = little_digits bytes small at in
    rw (e.0, e.1, e.2, e.3) (sym (there bytes at h))

pub little_after : (p q : List ℕ) (w : ℕ) → w < 2 ^ 32 → little_at (p ++ (little_bytes w ++ q)) (length p) ≡ w
unfolding little_at little_bytes
little_after p q w h =
    let r = little_bytes w ++ q in
    rw (get_or-append_seam p (w % 256) (w / 256 % 256 ∷ w / 65536 % 256 ∷ w / 16777216 % 256 ∷ q) 0, get_or-append-add p r 1 0, get_or-append-add p r 2 0, get_or-append-add p r 3 0)
    (omega (arith, whole w h))

pub length_little : (w : ℕ) → length (little_bytes w) ≡ 4
unfolding little_bytes
length_little w = refl

abbrev pub little : Order
little = record { at = little_at; bytes = little_bytes; four = length_little; small = little_lt; back = little_back; after = little_after }

-- ---- from one order to the other

-- the word whose bytes are the same in the other order
abbrev pub turned : ℕ → ℕ
turned w = 16777216 * (w % 256) + 65536 * (w / 256 % 256) + 256 * (w / 65536 % 256) + w / 16777216 % 256

pub little_turned : (bytes : List ℕ) → Bytes bytes → (at : ℕ) → turned (little_at bytes at) ≡ word_at bytes at
unfolding word_at
little_turned bytes small at =
    let e = little_digits bytes small at in
    rw (e.0, e.1, e.2, e.3)
