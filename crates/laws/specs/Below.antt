-- A test that each number below a bound passes, as one Bool: what a loop works out in a flag. Assumes nothing.
use Rattle.std.specs.Prelude.{◌≡◌, refl, Bool, true, false, ◌&&◌, ℕ, zero, suc, ◌+◌, ◌<◌}
use Rattle.std.proofs.Common.{sym, ap, ◌∙◌, ⊎_elim, add-zero, add-suc, not-suc-le-zero, le_of_suc-le-suc, eq-or-lt_of_le}
use Rattle.std.proofs.Math.Bool.{and-eq-true_iff}

abbrev pub all_below : (ℕ → Bool) → ℕ → Bool
all_below P zero = true
all_below P (suc n) = all_below P n && P n

module _ (P : ℕ → Bool) where
  pub each_below : (n k : ℕ) → all_below P n ≡ true → k < n → P k ≡ true
  each_below zero k h l = absurd (not-suc-le-zero l)
  each_below (suc n) k h l =
      let parts = (and-eq-true_iff (all_below P n) (P n)).0 h in
      ⊎_elim (λ same. ap P same ∙ parts.1) (λ before. each_below n k parts.0 before) (eq-or-lt_of_le (le_of_suc-le-suc l))

  -- those below n, then m from n on
  pub two_parts : (n m : ℕ) → all_below P n && all_below (λ k. P (n + k)) m ≡ all_below P (n + m)
  two_parts n zero = rw add-zero (and-true _)
    where
      and-true : (b : Bool) → b && true ≡ b
      and-true true = refl
      and-true false = refl
  two_parts n (suc m) =
      rw add-suc (sym (and_assoc (all_below P n) (all_below (λ k. P (n + k)) m) _) ∙ ap (λ (b : Bool). b && P (n + m)) (two_parts n m))
    where
      and_assoc : (a b c : Bool) → (a && b) && c ≡ a && (b && c)
      and_assoc true b c = refl
      and_assoc false b c = refl
