-- Laws of a step that is taken again and again: what it keeps, what it only adds to, steps that change nothing, and steps that are alike; and the digits of a number of
-- rounds and steps. Assumes nothing.
use Rattle.std.specs.Prelude.{ℕ, zero, suc, ◌+◌, ◌-◌, ◌*◌, ◌/◌, ◌%◌, ◌≤◌, ◌<◌, ◌≡◌, refl}
use Rattle.std.proofs.Common.{sym, ap, ◌∙◌, add-zero, add-suc, le_refl, le_trans, mod-eq_of_lt, arith}
use Rattle.std.proofs.Math.Nat.{mul-add-div, div-eq_of_lt, mul-add-mod_self_left}
use Rattle.laws.specs.Steps.{iterate}

module _ {A : Type 0} (measure : A → ℕ) (step : ℕ → A → A) where
  -- what a step keeps, many steps keep
  pub iterate_keeps : ((k : ℕ) (a : A) → measure (step k a) ≡ measure a) → (a : A) (k : ℕ) → measure (iterate step k a) ≡ measure a
  iterate_keeps keeps a zero = refl
  iterate_keeps keeps a (suc k) = keeps k (iterate step k a) ∙ iterate_keeps keeps a k

  module _ (grows : (k : ℕ) (a : A) → measure a ≤ measure (step k a)) (a : A) where
    iterate_on : (j k : ℕ) → measure (iterate step j a) ≤ measure (iterate step (j + k) a)
    iterate_on j zero = rw add-zero (le_refl _)
    iterate_on j (suc k) = rw add-suc (le_trans (iterate_on j k) (grows (j + k) (iterate step (j + k) a)))

    -- where a step takes nothing away, fewer steps give no more than many
    pub iterate_upto : (j k : ℕ) → j ≤ k → measure (iterate step j a) ≤ measure (iterate step k a)
    iterate_upto j k h =
        let e : k ≡ j + (k - j) = omega arith in
        rw e (iterate_on j (k - j))

-- steps that keep a part as it is are stepped over, as far as that part goes
module _ {A B : Type 0} (part : A → B) (f : ℕ → A → A) (a : A) where
  skip : (from k : ℕ) → ((i : ℕ) → from ≤ i → i < from + k → (a : A) → part (f i a) ≡ part a) → part (iterate f (from + k) a) ≡ part (iterate f from a)
  skip from zero h = rw add-zero
  skip from (suc k) h =
      rw add-suc (h (from + k) (omega arith) (omega arith) (iterate f (from + k) a) ∙ skip from k (λ i l u. h i l (omega arith)))

  pub part_skip : (from next : ℕ) → from ≤ next → ((i : ℕ) → from ≤ i → i < next → (a : A) → part (f i a) ≡ part a)
      → part (iterate f from a) ≡ part (iterate f next a)
  part_skip from next l h =
      let e : next ≡ from + (next - from) = omega arith in
      rw e (sym (skip from (next - from) (λ i a b. h i a (omega arith))))

-- and wholly where they change nothing
pub steps_skip : {A : Type 0} (f : ℕ → A → A) (a : A) (from next : ℕ) → from ≤ next → ((i : ℕ) → from ≤ i → i < next → (a : A) → f i a ≡ a)
    → iterate f from a ≡ iterate f next a
steps_skip {A} = part_skip (λ (a : A). a)

-- steps that are alike
pub iterate_same : {A : Type 0} (f g : ℕ → A → A) (k : ℕ) → ((i : ℕ) → i < k → (a : A) → f i a ≡ g i a) → (a : A) → iterate f k a ≡ iterate g k a
iterate_same f g zero same a = refl
iterate_same f g (suc k) same a =
    same k (le_refl _) (iterate f k a) ∙ ap (g k) (iterate_same f g k (λ i h. same i (omega arith)) a)

-- a number of two digits, the lower one below the base
module _ (base k i : ℕ) (h : i < base) where
  pub upper : (base * k + i) / base ≡ k
  upper = mul-add-div (let some : 0 < base = omega arith in some) k i ∙ rw (div-eq_of_lt h, add-zero)

  pub lower : (base * k + i) % base ≡ i
  lower = mul-add-mod_self_left base k i ∙ mod-eq_of_lt h
