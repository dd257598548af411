-- What is proved of blank: a block that 8 passes is blank exactly when its mesh has no triangle; and with mask 0 it is blank exactly when it was so by
-- document 01.
use Rattle.std.specs.Prelude.{◌≡◌, Bool, true, cond, ◌||◌, ◌↔◌, ℕ, zero, suc, ◌+◌, ◌-◌, ◌*◌, ◌≤◌, ◌<◌, eqb, length, get_or, Ok}
use Rattle.std.proofs.Math.Path.{sym, ap}
use Rattle.std.proofs.Common.{◌∙◌, mul-zero, mul-suc, mul-le-mul, arith}
use Rattle.std.proofs.Math.Bool.{and-true, and-eq-true_iff}
use Rattle.std.proofs.Math.Nat.{le_refl, le_step}
use Rattle.std.proofs.Math.Decide.{dec_lt}
use Rattle.std.specs.Float.{nan}
use Rattle.laws.specs.Steps.{total}
use Rattle.laws.specs.Tests.{then}
use Rattle.laws.specs.Below.{all_below, each_below}
use Rattle.laws.specs.Ranges.{both_ways, beq_eq, eq_beq, then_given, then_of, none_or_all, hold_all}
use Rattle.model.specs.Limits.{side_count}
use Rattle.model.specs.Samples.{in_block}
use Rattle.model.specs.Sides.{named}
use Rattle.model.specs.Rotations.{xyz}
use Rattle.model.specs.Formulas.{inside, inside_bit}
use Rattle.model.specs.Star.{Star, subdivisions}
use Rattle.model.specs.Points.{fine_sample}
use Rattle.model.specs.Judging.{judge_faces}
use Rattle.model.specs.Mesh.{mesh_of}
use Rattle.model.specs.Blank.{lies_as, centre_as, side_as, sides_as, is_blank, blank_before}
use Rattle.grid.specs.Places.{in_block_lem, sample_is}
use Rattle.blankness.specs.Weights.{alike, of_alike, by_ones, all_ones}
use Rattle.blankness.specs.OneSide.{centre_in, fine_in, OneSide}
use Rattle.blankness.proofs.OneSide.{one_side_none, none_one_side}

-- ---- each in-block place is a point's

rows_all : (Q : ℕ → Type 0) (m a : ℕ) → ((i j : ℕ) → i < a → j < m → Q (m * i + j)) → (k : ℕ) → k < m * a → Q k
rows_all Q m zero h k l = absurd (omega (arith, mul-zero m))
rows_all Q m (suc a) h k l = go (dec_lt k (m * a)) (λ b. rows_all Q m a (λ i j hi hj. h i j (le_step hi) hj) k b)
  where
    go : Dec (k < m * a) → (k < m * a → Q k) → Q k
    go (yes b) before = before b
    go (no b) before =
        let e : m * a + (k - m * a) ≡ k = omega arith in
        rw e at (h a (k - m * a) (le_refl _) (omega (arith, mul-suc m a)))

points_all : (Q : ℕ → Type 0) (n : ℕ) → ((x y z : ℕ) → x ≤ n → y ≤ n → z ≤ n → Q (in_block n x y z))
    → (k : ℕ) → k < (n + 1) * (n + 1) * (n + 1) → Q k
points_all Q n h =
    rows_all Q ((n + 1) * (n + 1)) (n + 1)
    (λ x r hx hr. rows_all (λ r. Q ((n + 1) * (n + 1) * x + r)) (n + 1) (n + 1)
    (λ y z hy hz.
    let e : (n + 1) * (n + 1) * x + (n + 1) * y + z ≡ (n + 1) * (n + 1) * x + ((n + 1) * y + z) = omega arith in
    rw e at (h x y z (omega arith) (omega arith) (omega arith))) r hr)

module _ (s : Star) where
  abbrev n : ℕ
  n = subdivisions s

  -- the in-block samples, and whether the one at a place is inside
  abbrev points : ℕ
  points = (n + 1) * (n + 1) * (n + 1)

  abbrev place_in : ℕ → Bool
  place_in k = inside s.threshold (get_or s.centre k nan)

  place_point : (x y z : ℕ) → x ≤ n → y ≤ n → z ≤ n → place_in (in_block n x y z) ≡ centre_in s x y z
  unfolding centre_in
  place_point x y z hx hy hz =
      ap (inside s.threshold) (sym (sample_is n s.centre (xyz x y z) (record { x_in = hx; y_in = hy; z_in = hz })))

  first_point : place_in 0 ≡ centre_in s 0 0 0
  first_point =
      let e : in_block n 0 0 0 ≡ 0 = omega (arith, mul-zero ((n + 1) * (n + 1)), mul-zero (n + 1)) in
      rw e at (place_point 0 0 0 (omega arith) (omega arith) (omega arith))

  -- ---- the definition goes by tests; what it says of the points

  abbrev place_test : Bool → ℕ → Bool
  place_test b k = lies_as b s.threshold (get_or s.centre k nan)

  module _ (b : Bool) where
    abbrev side_test : ℕ → Bool
    side_test side = then (named s.mask side) (side_as b s side)

    abbrev spot_test : ℕ → ℕ → ℕ → Bool
    spot_test side u2 v2 = lies_as b s.threshold (fine_sample s side u2 v2)

    as_one_side : centre_as b s ≡ true → sides_as b s ≡ true → OneSide s b
    unfolding centre_as sides_as side_as fine_in
    as_one_side c f =
        record {
          centre = λ x y z hx hy hz.
              sym (place_point x y z hx hy hz)
              ∙ beq_eq _ _ (each_below (place_test b) points (in_block n x y z) c (in_block_lem n x y z hx hy hz));
          fine = λ side hs is_named u2 v2 hu hv.
              let whole = then_given (named s.mask side) _ (each_below side_test side_count side f hs) is_named in
              let row = each_below (λ u2. all_below (spot_test side u2) (2 * n + 1)) (2 * n + 1) u2 whole (omega arith) in
              beq_eq _ _ (each_below (spot_test side u2) (2 * n + 1) v2 row (omega arith));
        }

    one_side_centre : OneSide s b → centre_as b s ≡ true
    unfolding centre_as
    one_side_centre o =
        hold_all (place_test b) points
        (points_all (λ k. place_test b k ≡ true) n
        (λ x y z hx hy hz. eq_beq _ _ (place_point x y z hx hy hz ∙ o.centre x y z hx hy hz)))

    one_side_sides : OneSide s b → sides_as b s ≡ true
    unfolding sides_as side_as fine_in
    one_side_sides o =
        hold_all side_test side_count
        (λ side hs. then_of (named s.mask side) _
        (λ is_named. hold_all _ (2 * n + 1)
        (λ u2 hu. hold_all (spot_test side u2) (2 * n + 1)
        (λ v2 hv. eq_beq _ _ (o.fine side hs is_named u2 v2 (omega arith) (omega arith))))))

  -- ---- blank, and no triangle

  -- whether or not the faces agree
  pub blank_none : is_blank s ≡ true → length (mesh_of s).triangles ≡ 0
  unfolding is_blank
  blank_none e =
      let p = (and-eq-true_iff (centre_as (place_in 0) s) (sides_as (place_in 0) s)).0 e in
      one_side_none s (place_in 0) (as_one_side (place_in 0) p.0 p.1)

  pub none_blank : 1 ≤ n → judge_faces s ≡ Ok tt → length (mesh_of s).triangles ≡ 0 → is_blank s ≡ true
  unfolding is_blank
  none_blank some agree none =
      let o : OneSide s (place_in 0) = rw first_point (none_one_side s some none agree) in
      (and-eq-true_iff (centre_as (place_in 0) s) (sides_as (place_in 0) s)).1 (one_side_centre (place_in 0) o, one_side_sides (place_in 0) o)

  pub blank_exactly : 1 ≤ n → judge_faces s ≡ Ok tt → (is_blank s ≡ true) ↔ (length (mesh_of s).triangles ≡ 0)
  blank_exactly some agree = (blank_none, none_blank some agree)

  -- ---- mask 0

  some_points : 0 < points
  some_points =
      let one : 1 ≤ n + 1 = omega arith in
      mul-le-mul (mul-le-mul one one) one

  abbrev insides : ℕ
  insides = total (λ k. inside_bit s.threshold (get_or s.centre k nan)) points

  centre_before : centre_as (place_in 0) s ≡ eqb insides 0 || eqb insides points
  unfolding centre_as
  centre_before =
      let test = place_test (place_in 0) in
      let counted = by_ones place_in points in
      let whole = all_ones points in
      let either = none_or_all insides points in
      both_ways _ _
      (λ e. either.1
      (rw counted (rw whole at (of_alike (λ k. 1) place_in points (place_in 0) (λ k h. beq_eq _ _ (each_below test points k e h))))))
      (λ e. hold_all test points
      (λ k h. eq_beq _ _ (alike (λ k. 1) place_in points some_points (λ k l. le_refl _) (rw whole (rw counted at (either.0 e))) k h)))

  no_sides : s.mask ≡ 0 → (b : Bool) → sides_as b s ≡ true
  unfolding sides_as named then
  no_sides e b = rw e

  pub mask_zero : s.mask ≡ 0 → cond (is_blank s) 1 0 ≡ blank_before points s.threshold s.centre
  unfolding is_blank
  mask_zero e = rw (no_sides e (place_in 0), and-true, centre_before)
