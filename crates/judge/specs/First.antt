-- Document 01, 'Answers by number': how the first refusal of several is found, by a search that goes in order. Whatever judges in a
-- loop cites these laws.
use Rattle.std.specs.Prelude.{ℕ, zero, suc, ◌+◌, ◌≤◌, ◌<◌, ◌≡◌, refl, Bool, true, false, Err, Ok}
use Rattle.std.proofs.Common.{◌∙◌, ⊎_elim, add-zero, add-suc, not-suc-le-zero, le_of_suc-le-suc, eq-or-lt_of_le, le_refl, add-one, arith}
use Rattle.std.proofs.Math.Nat.{le_step}
use Rattle.model.specs.declared.Refusal.{Refusal}
use Rattle.model.specs.Answers.{Verdict}
use Rattle.model.specs.Refusals.{unless, or_else, first}

pub or_else_assoc : (a b c : Verdict) → or_else (or_else a b) c ≡ or_else a (or_else b c)
or_else_assoc (Err r) b c = refl
or_else_assoc (Ok _) b c = refl

pub or_else_passed : (a : Verdict) → or_else a (Ok tt) ≡ a
or_else_passed (Err r) = refl
or_else_passed (Ok _) = refl

-- what passes, passes each of its parts
pub both_passed : (a b : Verdict) → or_else a b ≡ Ok tt → (a ≡ Ok tt) × (b ≡ Ok tt)
both_passed (Err r) b e = (e, cc)
both_passed (Ok _) b e = (refl, e)

pub unless_passed : (holds : Bool) (r : Refusal) → unless holds r ≡ Ok tt → holds ≡ true
unless_passed true r e = refl
unless_passed false r e = cc

module _ (f : ℕ → Verdict) where
  -- no refusal so far, and none here
  pub not_yet : (k : ℕ) → first f k ≡ Ok tt → f k ≡ Ok tt → first f (k + 1) ≡ Ok tt
  not_yet k before here = rw (add-one, before, here)

  -- no refusal among several: none at each place
  pub each_passed : (n k : ℕ) → first f n ≡ Ok tt → k < n → f k ≡ Ok tt
  each_passed zero k e h = absurd (not-suc-le-zero h)
  each_passed (suc n) k e h =
      ⊎_elim (λ q. rw q (both_passed (first f n) (f n) e).1) (λ l. each_passed n k (both_passed (first f n) (f n) e).0 l)
      (eq-or-lt_of_le (le_of_suc-le-suc h))

  -- no refusal so far, and none at the places that are passed over
  pub passed_over_lem : (j k : ℕ) → first f j ≡ Ok tt → ((i : ℕ) → j ≤ i → i < k → f i ≡ Ok tt) → j ≤ k → first f k ≡ Ok tt
  passed_over_lem j zero before between l = refl
  passed_over_lem j (suc k) before between l =
      ⊎_elim (λ e. rw e at before)
      (λ h. rw (passed_over_lem j k before (λ i a b. between i a (omega arith)) (le_of_suc-le-suc h), between k (le_of_suc-le-suc h) (omega arith)))
      (eq-or-lt_of_le l)

  -- no refusal so far, and one here: it is the first of all
  pub hit : (k m : ℕ) (r : Refusal) → first f k ≡ Ok tt → f k ≡ Err r → k < m → first f m ≡ Err r
  hit k zero r before here l = absurd (not-suc-le-zero l)
  hit k (suc m) r before here l =
      ⊎_elim (λ e. rw (← e, before, here)) (λ h. rw (hit k m r before here h)) (eq-or-lt_of_le (le_of_suc-le-suc l))

  -- the place of the first refusal, and that there is none before it
  pub found : (n : ℕ) (r : Refusal) → first f n ≡ Err r → (k : ℕ) × (k < n) × (first f k ≡ Ok tt) × (f k ≡ Err r)
  found zero r e = absurd (cc)
  found (suc n) r e = go (first f n) refl e (found n r)
    where
      go : (v : Verdict) → first f n ≡ v → or_else v (f n) ≡ Err r
          → (first f n ≡ Err r → (k : ℕ) × (k < n) × (first f k ≡ Ok tt) × (f k ≡ Err r))
          → (k : ℕ) × (k < suc n) × (first f k ≡ Ok tt) × (f k ≡ Err r)
      go (Ok _) before e earlier = (n, le_refl _, before, e)
      go (Err q) before e earlier =
          let w = earlier (before ∙ e) in
          (w.0, le_step w.1, w.2, w.3)

  -- the first of j + k is the first of j, or else that of the k after them
  pub first_append : (j k : ℕ) → first f (j + k) ≡ or_else (first f j) (first (λ i. f (j + i)) k)
  first_append j zero = rw (add-zero, or_else_passed)
  first_append j (suc k) = rw (add-suc, first_append j k, or_else_assoc)

-- two that agree at each place
pub first_same : (f g : ℕ → Verdict) (k : ℕ) → ((i : ℕ) → i < k → f i ≡ g i) → first f k ≡ first g k
first_same f g zero same = refl
first_same f g (suc k) same = rw (first_same f g k (λ i h. same i (omega arith)), same k (omega arith))
