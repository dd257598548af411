-- Marks, and words of them: what the lowest bytes of a word are.
use Prim.Native.Nat.{ℕ, zero, suc, ◌+◌, ◌-◌, ◌*◌, ◌/◌, ◌%◌, ◌^◌, ◌≤◌, ◌<◌}
use mathlib.Core.Path.{◌≡◌, refl, sym, ap, ◌∙◌}
use mathlib.Core.List.{List}
use native.Mathlib.Nat.{mul-suc, zero-mod, not-suc-le-zero}
use native.Mathlib.Decide.{dec_lt}
use native.Mathlib.Omega.{arith}
use lib.Count.{count_trailing_zeros, under}
use lib.ListN.{get_or}
use lib.Pow.{mod-pow-add, mod-mod-pow}
use Rattle.cases.specs.Marks.{eight_of}

-- ---- the lowest bytes of a word

-- a number is a multiple of the power of two that its lowest set digit stands for
trailing_divides : (width a : ℕ) → a % 2 ^ count_trailing_zeros width a ≡ 0
unfolding count_trailing_zeros
trailing_divides zero a = omega arith
trailing_divides (suc width) a = go (a % 2) refl (trailing_divides width (a / 2))
  where
    go : (d : ℕ) → a % 2 ≡ d → a / 2 % 2 ^ count_trailing_zeros width (a / 2) ≡ 0 → a % 2 ^ under d (count_trailing_zeros width (a / 2)) ≡ 0
    go zero e rest =
        let t = count_trailing_zeros width (a / 2) in
        let q : suc t ≡ t + 1 = omega arith in
        ap (λ (x : ℕ). a % 2 ^ x) q ∙ mod-pow-add a t 1 ∙ omega (arith, rest)
    go (suc d) e rest = omega arith

-- so is it of any lower power
pub trailing_clear : (width a k : ℕ) → k ≤ count_trailing_zeros width a → a % 2 ^ k ≡ 0
trailing_clear width a k h =
    let t = count_trailing_zeros width a in
    let e : t - k + k ≡ t = omega arith in
    sym (mod-mod-pow a (t - k) k) ∙ ap (λ (x : ℕ). a % 2 ^ x % 2 ^ k) e ∙ ap (λ (x : ℕ). x % 2 ^ k) (trailing_divides width a) ∙ zero-mod (2 ^ k)

module _ (marks : List ℕ) (held : (k : ℕ) → get_or marks k 0 < 256) (i : ℕ) where
  -- the word of so many marks from i + k on
  nest : ℕ → ℕ → ℕ
  nest k zero = 0
  nest k (suc count) = get_or marks (i + k) 0 + 256 * nest (suc k) count

  lowest : (b w j : ℕ) → b < 256 → (b + 256 * w) % 2 ^ (j + 8) ≡ 0 → (b ≡ 0) × (w % 2 ^ j ≡ 0)
  lowest b w j small e =
      let parts = sym (mod-pow-add (b + 256 * w) j 8) ∙ e in
      let quotient : (b + 256 * w) / 2 ^ 8 ≡ w = omega arith in
      let rest : w % 2 ^ j * 2 ^ 8 + (b + 256 * w) % 2 ^ 8 ≡ 0 = rw quotient at parts in
      (omega arith, omega arith)

  -- a byte that is clear, and those after it
  first_or_later : (k r : ℕ) → get_or marks (i + k) 0 ≡ 0 → ((j : ℕ) → j < r → get_or marks (i + (suc k + j)) 0 ≡ 0) → (j : ℕ) → j < suc r
      → get_or marks (i + (k + j)) 0 ≡ 0
  first_or_later k r first later zero l =
      let e : i + (k + 0) ≡ i + k = omega arith in
      ap (λ (q : ℕ). get_or marks q 0) e ∙ first
  first_or_later k r first later (suc j) l =
      let e : i + (k + suc j) ≡ i + (suc k + j) = omega arith in
      ap (λ (q : ℕ). get_or marks q 0) e ∙ later j (omega arith)

  nest_clear : (count k r : ℕ) → r ≤ count → nest k count % 2 ^ (8 * r) ≡ 0 → (j : ℕ) → j < r → get_or marks (i + (k + j)) 0 ≡ 0
  unfolding nest
  nest_clear count k zero h e = λ j l. absurd (not-suc-le-zero l)
  nest_clear zero k (suc r) h e = λ j l. absurd (not-suc-le-zero h)
  nest_clear (suc count) k (suc r) h e =
      let low = lowest (get_or marks (i + k) 0) (nest (suc k) count) (8 * r) (held (i + k)) (rw (mul-suc 8 r) at e) in
      first_or_later k r low.0 (nest_clear count (suc k) r (omega arith) low.1)

  word_nests : eight_of marks i ≡ nest 0 8
  unfolding nest
  word_nests =
      let at : (p q : ℕ) → p ≡ q → get_or marks p 0 ≡ get_or marks q 0 = λ p q e. ap (λ (k : ℕ). get_or marks k 0) e in
      omega (arith, at i (i + 0) (omega arith), at (i + 4 + 1) (i + 5) (omega arith), at (i + 4 + 2) (i + 6) (omega arith), at (i + 4 + 3) (i + 7) (omega arith))

  pub bytes_clear : (r : ℕ) → r ≤ 8 → eight_of marks i % 2 ^ (8 * r) ≡ 0 → (j : ℕ) → j < r → get_or marks (i + j) 0 ≡ 0
  bytes_clear r h e j l =
      let q : i + (0 + j) ≡ i + j = omega arith in
      ap (λ (k : ℕ). get_or marks k 0) (sym q) ∙ nest_clear 8 0 r h (rw word_nests at e) j l

  pub word_clear : eight_of marks i ≡ 0 → (j : ℕ) → j < 8 → get_or marks (i + j) 0 ≡ 0
  word_clear e = bytes_clear 8 (omega arith) (rw e (zero-mod (2 ^ (8 * 8))))

-- ---- along a row

-- no place up to this one is marked, and none of so many from there on
pub more_unmarked : (marks : List ℕ) (start from k r : ℕ) → ((j : ℕ) → from ≤ j → j < k → get_or marks (start + j) 0 ≡ 0)
    → ((j : ℕ) → j < r → get_or marks (start + k + j) 0 ≡ 0) → (j : ℕ) → from ≤ j → j < k + r → get_or marks (start + j) 0 ≡ 0
more_unmarked marks start from k r before after j l h = by (dec_lt j k)
  where
    by : Dec (j < k) → get_or marks (start + j) 0 ≡ 0
    by (yes g) = before j l g
    by (no g) =
        let e : start + k + (j - k) ≡ start + j = omega arith in
        ap (λ (q : ℕ). get_or marks q 0) (sym e) ∙ after (j - k) (omega arith)

pub first_unmarked : (marks : List ℕ) (start from r : ℕ) → get_or marks (start + from) 0 ≡ 0
    → ((k : ℕ) → from + 1 ≤ k → k < r → get_or marks (start + k) 0 ≡ 0) → (k : ℕ) → from ≤ k → k < r → get_or marks (start + k) 0 ≡ 0
first_unmarked marks start from r first later k l h = by (dec_lt from k)
  where
    by : Dec (from < k) → get_or marks (start + k) 0 ≡ 0
    by (yes g) = later k (omega arith) h
    by (no g) =
        let e : start + from ≡ start + k = omega arith in
        ap (λ (q : ℕ). get_or marks q 0) (sym e) ∙ first
