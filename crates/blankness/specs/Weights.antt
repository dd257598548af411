-- A sum of weights, each taken where a test holds: where it is nothing or the whole sum, the tests are alike. Case numbers are such sums. Knows
-- nothing of meshes.
use Rattle.std.specs.Prelude.{◌≡◌, refl, ◌⊎◌, Bool, true, false, cond, ℕ, zero, suc, ◌+◌, ◌*◌, ◌≤◌, ◌<◌}
use Rattle.std.proofs.Common.{sym, ap₂, ◌∙◌, inl, inr, ⊎_elim, one-mul, mul-one, mul-zero, not-suc-le-zero, le_refl, le_of_suc-le-suc, eq-or-lt_of_le, arith}
use Rattle.std.proofs.Math.Nat.{le_step}
use Rattle.laws.specs.Steps.{total}
use Rattle.laws.specs.Sums.{total_none}
use Rattle.laws.specs.Ranges.{none_each}

weight_most : (w : ℕ) (b : Bool) → w * cond b 1 0 ≤ w
weight_most w true = omega (arith, mul-one w)
weight_most w false = omega (arith, mul-zero w)

weight_none : (w : ℕ) (b : Bool) → 1 ≤ w → w * cond b 1 0 ≡ 0 → b ≡ false
weight_none w true h e = absurd (omega (arith, mul-one w))
weight_none w false h e = refl

weight_whole : (w : ℕ) (b : Bool) → 1 ≤ w → w * cond b 1 0 ≡ w → b ≡ true
weight_whole w true h e = refl
weight_whole w false h e = absurd (omega (arith, mul-zero w))

module _ (w : ℕ → ℕ) (f : ℕ → Bool) where
  abbrev pub taken : ℕ → ℕ
  taken n = total (λ k. w k * cond (f k) 1 0) n

  pub taken_most : (n : ℕ) → taken n ≤ total w n
  taken_most zero = le_refl _
  taken_most (suc n) = omega (arith, taken_most n, weight_most (w n) (f n))

  -- the weights are not nothing
  abbrev pub Some : ℕ → Type 0
  Some n = (k : ℕ) → k < n → 1 ≤ w k

  all_taken : (n : ℕ) → Some n → taken n ≡ total w n → (k : ℕ) → k < n → f k ≡ true
  all_taken zero some e k h = absurd (not-suc-le-zero h)
  all_taken (suc n) some e k h =
      let before = taken_most n in
      let here = weight_most (w n) (f n) in
      ⊎_elim (λ q. rw q (weight_whole (w n) (f n) (some n (le_refl _)) (omega arith)))
      (λ l. all_taken n (λ i b. some i (le_step b)) (omega arith) k l) (eq-or-lt_of_le (le_of_suc-le-suc h))

  pub alike : (n : ℕ) → 0 < n → Some n → (taken n ≡ 0) ⊎ (taken n ≡ total w n) → (k : ℕ) → k < n → f k ≡ f 0
  alike n h some (inl e) k l =
      let none : (i : ℕ) → i < n → f i ≡ false = λ i b. weight_none (w i) (f i) (some i b) (none_each _ n e i b) in
      none k l ∙ sym (none 0 h)
  alike n h some (inr e) k l = all_taken n some e k l ∙ sym (all_taken n some e 0 h)

  all_taken_of : (n : ℕ) → ((k : ℕ) → k < n → f k ≡ true) → taken n ≡ total w n
  all_taken_of zero h = refl
  all_taken_of (suc n) h = ap₂ ◌+◌ (all_taken_of n (λ k l. h k (le_step l))) (rw (h n (le_refl _)) (mul-one (w n)))

  pub of_alike : (n : ℕ) (b : Bool) → ((k : ℕ) → k < n → f k ≡ b) → (taken n ≡ 0) ⊎ (taken n ≡ total w n)
  of_alike n true h = inr (all_taken_of n h)
  of_alike n false h = inl (total_none _ n (λ k l. rw (h k l) (mul-zero (w k))))

-- a count is such a sum, with weights of 1
pub by_ones : (f : ℕ → Bool) (n : ℕ) → total (λ k. cond (f k) 1 0) n ≡ taken (λ k. 1) f n
by_ones f zero = refl
by_ones f (suc n) = ap₂ ◌+◌ (by_ones f n) (sym (one-mul _))

pub all_ones : (n : ℕ) → total (λ k. 1) n ≡ n
all_ones zero = refl
all_ones (suc n) = omega (arith, all_ones n)
