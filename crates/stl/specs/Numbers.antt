-- Document 02, [1]: the words of a triangle's corners, looked at for a NaN before they are copied. Assumes nothing.
use Rattle.std.specs.Prelude.{ℕ, ◌+◌, ◌*◌, ◌<◌, ◌≡◌, Bool, true, false, not, List}
use Rattle.std.proofs.lemmas.Bool.{not-true}
use Rattle.std.specs.Float.{binary32}
use Rattle.std.specs.Float.Ieee.{nan_bits}
use Rattle.laws.specs.Below.{all_below, each_below}
use Rattle.model.specs.Words.{little_at}

-- the word k places from there is a pattern of a NaN
abbrev pub nan_after : List ℕ → ℕ → ℕ → Bool
nan_after bytes from k = nan_bits binary32 (little_at bytes (from + 4 * k))

-- the first n words from there are none
abbrev pub all_numbers : List ℕ → ℕ → ℕ → Bool
all_numbers bytes from = all_below (λ k. not (nan_after bytes from k))

pub number_at : (bytes : List ℕ) (from n k : ℕ) → all_numbers bytes from n ≡ true → k < n → nan_after bytes from k ≡ false
number_at bytes from n k h l = not-true _ (each_below (λ k. not (nan_after bytes from k)) n k h l)
