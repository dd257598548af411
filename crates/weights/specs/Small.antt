-- Finite f32 values whose size is at most a whole number below 2 ^ 24: what sums, differences and products of them, and quotients of whole numbers, come
-- to. None overflows. Assumes nothing.
use Rattle.std.specs.Prelude.{ℕ, ◌+◌, ◌*◌, ◌≤◌, ◌<◌, ◌≡◌, Bool, false, Float}
use Rattle.std.proofs.Common.{◌∙◌, le_antisymm, mul-le-mul, mul-le-mul_right, le_of_mul-le-mul_right, mul-pos, arith}
use Rattle.std.specs.Float.{binary32}
use Rattle.std.specs.Float.Ieee.{low, of_int, round}
use Rattle.model.specs.Formulas.{◌⊕◌, ◌⊖◌, ◌⊗◌, ◌⊘◌, whole}
use Rattle.weights.specs.Units.{per_one, magnitude, distance, parts}
use Rattle.weights.specs.Rounding.{rounded, exactly, some_units, large, near_quotient, too_many, plenty, room}
use Rattle.weights.specs.Values.{Number, Known, known, rounded_mono}
use Rattle.weights.specs.Operations.{Rounds, both_parts, sum_rounds, difference_rounds, product_known, quotient_known}

pub record Small (c : ℕ) (x : Float) : Type 0 where
  pub number : Number x
  pub size : magnitude x ≤ c * per_one

pub smaller : {c d : ℕ} {x : Float} → Small c x → c ≤ d → Small d x
smaller p h = record { number = p.number; size = omega (arith, p.size, mul-le-mul_right per_one h) }

-- ---- a whole number is not moved

pub ones_exact : (c : ℕ) → c < parts → rounded (c * per_one) per_one ≡ c * per_one
unfolding per_one
ones_exact c h = exactly c (low binary32) h

ones_fine : (c : ℕ) → c < parts → rounded (c * per_one) per_one < too_many
ones_fine c h = rw (ones_exact c h) (omega (arith, mul-le-mul_right per_one h, room))

-- so what is at most a whole number is so when it is rounded
pub at_most_ones : (a b c : ℕ) → 0 < b → c < parts → a ≤ c * b → rounded a b ≤ c * per_one
at_most_ones a b c some few h =
    rw (ones_exact c few) at (rounded_mono a b (c * per_one) per_one some some_units (omega (arith, mul-le-mul_right per_one h)) (ones_fine c few))

pub few_units : {c : ℕ} → c < parts → (n : ℕ) → n ≤ c * per_one → n < too_many
few_units few n h = omega (arith, mul-le-mul_right per_one few, room)

pub of_known : {x : Float} {s : Bool} {u c : ℕ} → Known x s u → u ≤ c * per_one → Small c x
of_known k h = record { number = k.number; size = rw k.size h }

pub small_rounded : (s : Bool) (a b c : ℕ) → 0 < b → c < parts → a ≤ c * b → Small c (round binary32 s a b)
small_rounded s a b c some few h = let most = at_most_ones a b c some few h in of_known (known s a b (few_units few _ most)) most

pub whole_known : (k : ℕ) → k < parts → Known (whole k) false (k * per_one)
unfolding of_int
whole_known k few =
    let up = at_most_ones k 1 k (omega arith) few (omega arith) in
    let fine = few_units few _ up in
    let down = rw (ones_exact k few) at (rounded_mono (k * per_one) per_one k 1 some_units (omega arith) (omega arith) fine) in
    let j = known false k 1 fine in
    record { number = j.number; sign = j.sign; size = j.size ∙ le_antisymm up down }

pub whole_small : (k : ℕ) → k < parts → Small k (whole k)
whole_small k few = of_known (whole_known k few) (omega arith)

-- ---- sums, differences, products

of_rounds : {p n c : ℕ} {z : Float} → Rounds p n z → c < parts → distance p n ≤ c * per_one → Small c z
of_rounds {c = c} r few h =
    record { number = r.number; size = rw r.size (at_most_ones _ per_one c some_units few h) }

module _ {c d : ℕ} {x y : Float} (p : Small c x) (q : Small d y) where
  few_sum : c + d < parts → 2 * (magnitude x + magnitude y) ≤ plenty * per_one
  few_sum few = omega (arith, p.size, q.size, mul-le-mul_right per_one few)

  pub small_sum : c + d < parts → Small (c + d) (x ⊕ y)
  small_sum few =
      of_rounds (sum_rounds x y p.number q.number (few_sum few)) few (omega (arith, both_parts x, both_parts y, p.size, q.size))

  pub small_difference : c + d < parts → Small (c + d) (x ⊖ y)
  small_difference few =
      of_rounds (difference_rounds x y p.number q.number (few_sum few)) few (omega (arith, both_parts x, both_parts y, p.size, q.size))

  pub product_at_most : {e : ℕ} → e < parts → magnitude x * magnitude y ≤ e * (per_one * per_one) → Small e (x ⊗ y)
  product_at_most few h =
      let most = at_most_ones _ (per_one * per_one) _ (mul-pos some_units some_units) few h in
      of_known (product_known x y p.number q.number (few_units few _ most)) most

  pub small_product : c * d < parts → Small (c * d) (x ⊗ y)
  small_product few = product_at_most few (omega (arith, mul-le-mul p.size q.size))

-- ---- quotients of whole numbers

-- one that is at most 1
module _ (k n : ℕ) (h : k ≤ n) (some : 1 ≤ n) (few : n < parts) where
  quotient_at_most : rounded (k * per_one) (n * per_one) ≤ 1 * per_one
  quotient_at_most = at_most_ones _ _ 1 (mul-pos some some_units) (omega arith) (omega (arith, mul-le-mul_right per_one h))

  wholes_quotient : Known (whole k ⊘ whole n) false (rounded (k * per_one) (n * per_one))
  wholes_quotient =
      let a = whole_known k (omega arith) in
      let b = whole_known n few in
      let fine = few_units {c = 1} (omega arith) _ quotient_at_most in
      let q = quotient_known (whole k) (whole n) a.number b.number (rw b.size (mul-pos some some_units)) (rw (a.size, b.size) fine) in
      rw (a.size, b.size, a.sign, b.sign) at q

  pub small_quotient : Small 1 (whole k ⊘ whole n)
  small_quotient = of_known wholes_quotient quotient_at_most

-- n times 1/n, rounded, is at most 2
pub nth_size : (n : ℕ) → 1 ≤ n → n < parts → n * magnitude (whole 1 ⊘ whole n) ≤ 2 * per_one
nth_size n some few =
    let fine : n * parts ≤ per_one = omega (arith, large) in
    rw (wholes_quotient 1 n some some few).size
    (le_of_mul-le-mul_right
    (omega (arith, (near_quotient (1 * per_one) (n * per_one) (mul-pos some some_units)).0, mul-le-mul_right per_one fine)) some_units)
