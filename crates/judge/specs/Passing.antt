-- Document 01, 'Answers by number': 1 to 6 and 1 to 7 in the parts that they are judged in, and that a block which passes them has its shape.
use Rattle.std.specs.Prelude.{ℕ, ◌≤◌, ◌≡◌, ◌++◌, leb, Float, length, Err, Ok}
use Rattle.std.proofs.Math.Bool.{and-eq-true_iff}
use Rattle.std.proofs.Common.{arith, leb-true, eqb-true}
use Rattle.model.specs.declared.Block.{Block}
use Rattle.model.specs.declared.Refusal.{Refusal}
use Rattle.model.specs.declared.Refusal.TheVariants.{Subdivisions, Mask, CentreLength, NeighboursTooLong}
use Rattle.model.specs.Answers.{Verdict}
use Rattle.model.specs.Refusals.{or_else}
use Rattle.model.specs.Samples.{sample_length}
use Rattle.model.specs.Sides.{neighbours_length}
use Rattle.model.specs.Star.{Star, subdivisions}
use Rattle.model.specs.Limits.{most_subdivisions, most_mask, side_count}
use Rattle.model.specs.Judging.{judge_subdivisions, judge_mask, judge_measures, judge_centre, judge_missing, judge_too_long, judge_samples, judge_lent, judge_star}
use Rattle.grid.specs.Shape.{Shaped}
use Rattle.judge.specs.First.{or_else_assoc, both_passed, unless_passed}
use Rattle.judge.specs.Parts.{judge_kind, judge_lengths}
use Rattle.judge.specs.Lengths.{parts_there, named_below_all}

-- 3 to 6
abbrev pub judge_shape : Block → ℕ → Float → ℕ → ℕ → Verdict
judge_shape block mask threshold centre neighbours =
    or_else (judge_measures block threshold) (judge_lengths block.subdivisions mask centre neighbours)

module _ (block : Block) (mask : ℕ) (threshold : Float) (centre neighbours : ℕ) where
  in_parts :
      judge_lent block mask threshold centre neighbours
      ≡ or_else (judge_kind block.subdivisions mask) (judge_shape block mask threshold centre neighbours)
  unfolding judge_lent
  in_parts = simp or_else_assoc

  pub kind_refused : {r : Refusal} → judge_kind block.subdivisions mask ≡ Err r
      → judge_lent block mask threshold centre neighbours ≡ Err r
  kind_refused kind = rw (in_parts, kind)

  pub shape_left : judge_kind block.subdivisions mask ≡ Ok tt
      → judge_lent block mask threshold centre neighbours ≡ judge_shape block mask threshold centre neighbours
  shape_left kind = rw (in_parts, kind)

pub record Kind (n mask : ℕ) : Type 0 where
  pub some : 1 ≤ n
  pub few : n ≤ most_subdivisions
  pub sides : mask ≤ most_mask

pub kind_passed : (n mask : ℕ) → judge_kind n mask ≡ Ok tt → Kind n mask
kind_passed n mask passed =
    let parts = both_passed (judge_subdivisions n) (judge_mask mask) passed in
    let range = (and-eq-true_iff (leb 1 n) (leb n most_subdivisions)).0 (unless_passed _ (Subdivisions n) parts.0) in
    record {
      some = leb-true 1 n range.0;
      few = leb-true n most_subdivisions range.1;
      sides = leb-true mask most_mask (unless_passed _ (Mask mask) parts.1);
    }

-- 1 to 6 of a block and its neighbours
abbrev pub lent_of : Star → Verdict
lent_of s = judge_lent s.block s.mask s.threshold (length s.centre) (length s.neighbours)

pub lent_shaped : (s : Star) → lent_of s ≡ Ok tt → Shaped s
unfolding judge_missing
lent_shaped s passed =
    let n = subdivisions s in
    let centre = length s.centre in
    let neighbours = length s.neighbours in
    let measures = judge_measures s.block s.threshold in
    let missing = judge_missing n s.mask neighbours in
    let long = judge_too_long n s.mask neighbours in
    let lengths = judge_lengths n s.mask centre neighbours in
    let from1 = both_passed (judge_kind n s.mask) _ (rw in_parts at passed) in
    let from4 = both_passed (judge_centre n centre) (or_else missing long) (both_passed measures lengths from1.1).1 in
    let from5 = both_passed missing long from4.1 in
    let kind = kind_passed n s.mask from1.0 in
    let enough = parts_there s.mask kind.sides n neighbours side_count (omega arith) from5.0 in
    let few = leb-true neighbours (neighbours_length n s.mask) (unless_passed _ (NeighboursTooLong _) from5.1) in
    record {
      some = kind.some;
      few = kind.few;
      sides = kind.sides;
      centre_is = eqb-true centre (sample_length n) (unless_passed _ (CentreLength _) from4.0);
      neighbours_are = omega (arith, rw (named_below_all s.mask kind.sides) at enough);
    }

module _ (s : Star) where
  pub lent_refused : {r : Refusal} → lent_of s ≡ Err r → judge_star s ≡ Err r
  unfolding judge_star
  lent_refused lent = rw lent

  pub samples_left : lent_of s ≡ Ok tt → judge_star s ≡ judge_samples (s.centre ++ s.neighbours)
  unfolding judge_star
  samples_left lent = rw lent

  pub star_lent : judge_star s ≡ Ok tt → lent_of s ≡ Ok tt
  unfolding judge_star
  star_lent passed = (both_passed (lent_of s) _ passed).0

  pub star_samples : judge_star s ≡ Ok tt → judge_samples (s.centre ++ s.neighbours) ≡ Ok tt
  unfolding judge_star
  star_samples passed = (both_passed (lent_of s) _ passed).1

  pub star_measures : judge_star s ≡ Ok tt → judge_measures s.block s.threshold ≡ Ok tt
  star_measures passed =
      let from1 = both_passed (judge_kind (subdivisions s) s.mask) _ (rw in_parts at (star_lent passed)) in
      (both_passed (judge_measures s.block s.threshold) _ from1.1).0

  pub star_shaped : judge_star s ≡ Ok tt → Shaped s
  star_shaped passed = lent_shaped s (star_lent passed)
