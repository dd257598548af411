-- A test of each number below a bound, as a fold over the range works it out.
use Rattle.std.specs.Prelude.{ℕ, zero, suc, ◌+◌, ◌≡◌, Bool, true, ◌&&◌}
use Rattle.std.proofs.Common.{◌∙◌, ap, add-zero, add-one, zero-add, arith}
use Rattle.std.specs.List.{fold, range_with_len}
use Rattle.laws.specs.Below.{all_below}

module _ (P : ℕ → Bool) where
  fold_from : (a n : ℕ) → fold (λ b k. b && P k) (all_below P a) (range_with_len a n) ≡ all_below P (a + n)
  fold_from a zero = rw add-zero
  fold_from a (suc n) =
      let e : suc a + n ≡ a + suc n = omega arith in
      rw add-one (fold_from (suc a) n ∙ ap (all_below P) e)

  pub fold_all : (n : ℕ) → fold (λ b k. b && P k) true (range_with_len 0 n) ≡ all_below P n
  fold_all n = fold_from 0 n ∙ ap (all_below P) (zero-add n)
