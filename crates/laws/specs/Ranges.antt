-- Tests that hold at each number below a bound, as a loop that leaves at the first that fails works them out, and sums over a range that come to
-- nothing. Assumes nothing.
use Rattle.std.specs.Prelude.{◌≡◌, refl, Bool, true, false, ◌&&◌, ◌||◌, ◌⊎◌, ◌↔◌, ℕ, zero, suc, ◌+◌, ◌≤◌, ◌<◌, T, eqb}
use Rattle.std.proofs.Common.{sym, ◌∙◌, true≢false, inl, inr, ⊎_elim, not-suc-le-zero, le_refl, le_of_suc-le-suc, eq-or-lt_of_le, add-one, arith, eqb-true, eq-eqb}
use Rattle.std.proofs.Math.Bool.{or-true}
use Rattle.std.specs.Bool.{beq}
use Rattle.std.proofs.Math.Nat.{le_step}
use Rattle.std.proofs.Math.Decide.{dec_lt}
use Rattle.laws.specs.Steps.{total}
use Rattle.laws.specs.Sums.{total_none, square, cube, square_none}
use Rattle.laws.specs.Tests.{then}
use Rattle.laws.specs.Below.{all_below, each_below}

-- ---- one test, and two

pub passes : (b : Bool) → T b → b ≡ true
passes true t = refl
passes false t = absurd t

pub both_ways : (a b : Bool) → (a ≡ true → b ≡ true) → (b ≡ true → a ≡ true) → a ≡ b
both_ways true b f g = sym (f refl)
both_ways false true f g = g refl
both_ways false false f g = refl

pub beq_eq : (a b : Bool) → beq a b ≡ true → a ≡ b
beq_eq true true e = refl
beq_eq false false e = refl
beq_eq true false e = sym e
beq_eq false true e = e

pub eq_beq : (a b : Bool) → a ≡ b → beq a b ≡ true
eq_beq true b e = rw (← e)
eq_beq false b e = rw (← e)

pub then_given : (a b : Bool) → then a b ≡ true → a ≡ true → b ≡ true
unfolding then
then_given true b e h = e
then_given false b e h = cc

pub then_of : (a b : Bool) → (a ≡ true → b ≡ true) → then a b ≡ true
unfolding then
then_of true b h = h refl
then_of false b h = refl

-- a number that is none, or all
pub none_or_all : (i most : ℕ) → (eqb i 0 || eqb i most ≡ true) ↔ ((i ≡ 0) ⊎ (i ≡ most))
none_or_all i most = (told (eqb i 0) (eqb-true i 0), tells)
  where
    told : (b : Bool) → (b ≡ true → i ≡ 0) → b || eqb i most ≡ true → (i ≡ 0) ⊎ (i ≡ most)
    told true h e = inl (h refl)
    told false h e = inr (eqb-true i most e)

    tells : (i ≡ 0) ⊎ (i ≡ most) → eqb i 0 || eqb i most ≡ true
    tells (inl e) = rw (eq-eqb i 0 e)
    tells (inr e) = rw (eq-eqb i most e) (or-true (eqb i 0))

-- ---- a test at each number below a bound

module _ (P : ℕ → Bool) where
  pub hold_all : (k : ℕ) → ((i : ℕ) → i < k → P i ≡ true) → all_below P k ≡ true
  hold_all zero h = refl
  hold_all (suc k) h = rw (h k (le_refl _), hold_all k (λ i l. h i (le_step l)))

  -- it holds so far, and at the numbers that are passed over
  pub hold_over : (j k : ℕ) → all_below P j ≡ true → ((i : ℕ) → j ≤ i → i < k → P i ≡ true) → all_below P k ≡ true
  hold_over j k e h = hold_all k (λ i l. by i l (dec_lt i j))
    where
      by : (i : ℕ) → i < k → Dec (i < j) → P i ≡ true
      by i l (yes b) = each_below P j i e b
      by i l (no b) = h i (omega arith) l

  -- it holds so far, and here
  pub hold_more : (k : ℕ) → all_below P k ≡ true → P k ≡ true → all_below P (k + 1) ≡ true
  hold_more k e h = rw (add-one, e, h)

  -- it fails here: it does not hold at each
  pub fail_all : (k i : ℕ) → i < k → P i ≡ false → all_below P k ≡ false
  fail_all k i l e = go (all_below P k) (λ h. each_below P k i h l)
    where
      go : (b : Bool) → (b ≡ true → P i ≡ true) → b ≡ false
      go true h = sym (h refl) ∙ e
      go false h = refl

  -- it does not hold at each: it fails somewhere
  pub some_fails : (k : ℕ) → all_below P k ≡ false → (i : ℕ) × (i < k) × (P i ≡ false)
  some_fails zero e = absurd (true≢false e)
  some_fails (suc k) e = go (all_below P k) (P k) refl refl e (some_fails k)
    where
      go : (a b : Bool) → all_below P k ≡ a → P k ≡ b → a && b ≡ false → (all_below P k ≡ false → (i : ℕ) × (i < k) × (P i ≡ false))
          → (i : ℕ) × (i < suc k) × (P i ≡ false)
      go true true before here e found = absurd (true≢false e)
      go true false before here e found = (k, le_refl _, here)
      go false b before here e found =
          let w = found before in
          (w.0, le_step w.1, w.2)

pub same_below : (P Q : ℕ → Bool) (k : ℕ) → ((i : ℕ) → i < k → P i ≡ Q i) → all_below P k ≡ all_below Q k
same_below P Q zero same = refl
same_below P Q (suc k) same = rw (same_below P Q k (λ i l. same i (le_step l)), same k (le_refl _))

-- ---- sums that come to nothing

pub none_each : (f : ℕ → ℕ) (k : ℕ) → total f k ≡ 0 → (i : ℕ) → i < k → f i ≡ 0
none_each f zero e i h = absurd (not-suc-le-zero h)
none_each f (suc k) e i h =
    ⊎_elim (λ q. rw q (omega arith)) (λ l. none_each f k (omega arith) i l) (eq-or-lt_of_le (le_of_suc-le-suc h))

pub square_each : (f : ℕ → ℕ → ℕ) (n : ℕ) → square f n ≡ 0 → (u v : ℕ) → u < n → v < n → f u v ≡ 0
square_each f n e u v hu hv = none_each (f u) n (none_each _ n e u hu) v hv

pub cube_each : (f : ℕ → ℕ → ℕ → ℕ) (n : ℕ) → cube f n ≡ 0 → (x y z : ℕ) → x < n → y < n → z < n → f x y z ≡ 0
cube_each f n e x y z hx hy hz = square_each (f x) n (none_each _ n e x hx) y z hy hz

pub cube_none : (f : ℕ → ℕ → ℕ → ℕ) (n : ℕ) → ((x y z : ℕ) → x < n → y < n → z < n → f x y z ≡ 0) → cube f n ≡ 0
cube_none f n h = total_none _ n (λ x hx. square_none (f x) n (λ y z hy hz. h x y z hx hy hz))
