-- The case numbers are the tables': a cell's contributions add up to no more than those of all its points.
use Rattle.std.specs.Prelude.{ℕ, ◌+◌, ◌*◌, ◌/◌, ◌%◌, ◌≤◌, Bool, true, false, cond, Float}
use Rattle.std.proofs.Common.{arith}
use Rattle.model.specs.Formulas.{inside, inside_bit}
use Rattle.model.specs.Samples.{sample_of}
use Rattle.model.specs.Star.{Star, subdivisions}
use Rattle.model.specs.Points.{corner_point, regular_case, fine_sample, transition_case}
use Rattle.cases.specs.Marks.{all_regular, all_transition}

inside_small : (b : Bool) → cond b 1 0 ≤ 1
inside_small true = omega arith
inside_small false = omega arith

pub bit_small : (threshold sample : Float) → inside_bit threshold sample ≤ 1
bit_small threshold sample = inside_small (inside threshold sample)

-- the eight contributions add up to 255
pub regular_case_small : (s : Star) (x y z : ℕ) → regular_case s x y z ≤ all_regular
unfolding regular_case
regular_case_small s x y z =
    let bit : (k : ℕ) → inside_bit s.threshold (sample_of (subdivisions s) s.centre (corner_point x y z k)) ≤ 1 =
    λ k. inside_small (inside s.threshold (sample_of (subdivisions s) s.centre (corner_point x y z k))) in
    omega (arith, bit 0, bit 1, bit 2, bit 3, bit 4, bit 5, bit 6, bit 7)

-- the nine contributions add up to 511
pub transition_case_small : (s : Star) (side u v : ℕ) → transition_case s side u v ≤ all_transition
unfolding transition_case
transition_case_small s side u v =
    let bit : (k : ℕ) → inside_bit s.threshold (fine_sample s side (2 * u + k % 3) (2 * v + k / 3)) ≤ 1 =
    λ k. inside_small (inside s.threshold (fine_sample s side (2 * u + k % 3) (2 * v + k / 3))) in
    omega (arith, bit 0, bit 1, bit 2, bit 3, bit 4, bit 5, bit 6, bit 7, bit 8)
