-- Rows laid end to end, as a flat array has them. Assumes nothing.
use Rattle.std.specs.Prelude.{◌≡◌, Bool, true, List, [], ◌∷◌, ◌++◌, ℕ, zero, suc, ◌+◌, ◌*◌, ◌<◌, T, eqb, length, get_or, take, drop}
use Rattle.std.proofs.Common.{zero-mul, suc-mul, not-suc-le-zero, le_of_suc-le-suc, arith, eqb→eq, take_at}
use Rattle.std.proofs.Math.Seq.{drop-append-add}
use Rattle.laws.specs.Tests.{both, both_left, both_right}

abbrev pub joined : List (List ℕ) → List ℕ
joined [] = []
joined (r ∷ rs) = r ++ joined rs

-- every row has n entries
abbrev pub wide : ℕ → List (List ℕ) → Bool
wide n [] = true
wide n (r ∷ rs) = both (eqb (length r) n) (wide n rs)

module _ (n : ℕ) where
  -- a row of the flat list is the row
  pub row_of : (rs : List (List ℕ)) → T (wide n rs) → (k : ℕ) → k < length rs → take n (drop (k * n) (joined rs)) ≡ get_or rs k []
  row_of [] t k h = absurd (not-suc-le-zero h)
  row_of (r ∷ rs) t zero h = rw zero-mul (take_at r (joined rs) n (eqb→eq (length r) n (both_left _ _ t)))
  row_of (r ∷ rs) t (suc k) h =
      let e : length r ≡ n = eqb→eq (length r) n (both_left _ _ t) in
      let s : suc k * n ≡ k * n + n = suc-mul k n in
      let m : suc k * n ≡ length r + k * n = omega arith in
      rw (m, drop-append-add) (row_of rs (both_right _ _ t) k (le_of_suc-le-suc h))

  pub row_wide : (rs : List (List ℕ)) → T (wide n rs) → (k : ℕ) → k < length rs → length (get_or rs k []) ≡ n
  row_wide [] t k h = absurd (not-suc-le-zero h)
  row_wide (r ∷ rs) t zero h = eqb→eq (length r) n (both_left _ _ t)
  row_wide (r ∷ rs) t (suc k) h = row_wide rs (both_right _ _ t) k (le_of_suc-le-suc h)
