-- The viewer's packed numbers, by what the record's judges find. Assumes nothing.
use Rattle.std.specs.Prelude.{ℕ, ◌+◌, ◌≤◌, ◌≡◌, Bool, cond, List, Err, Ok}
use Rattle.std.proofs.Common.{lit≤}
use Rattle.model.specs.declared.Refusal.{Refusal}
use Rattle.model.specs.declared.Refusal.TheVariants.{Subdivisions, Mask, Measure, CentreLength, MissingNeighbour, NeighboursTooLong, BadSample, FaceMismatch, IndexStoreTooShort, NoRoom, RecordLength, Version, SampleCount, BufferTooShort, PointNeverSampled, StlLength, NoVertex, BadFiller, ChangesTooShort, VolumeSize, VolumeLength, FirstPoint, EdgesTooShort, LayerDiffers}
use Rattle.model.specs.Answers.{Verdict}
use Rattle.model.specs.Refusals.{numbers_of}
use Rattle.model.specs.Record.{star_of, judge_record}
use Rattle.model.specs.Blank.{is_blank}
use Rattle.model.specs.Viewer.{packed, blank_answer}

-- two digits
pub number_small : (r : Refusal) → (numbers_of r).number ≤ 99
number_small (Subdivisions n) = lit≤ tt
number_small (Mask mask) = lit≤ tt
number_small (Measure which) = lit≤ tt
number_small (CentreLength wanted) = lit≤ tt
number_small (MissingNeighbour side) = lit≤ tt
number_small (NeighboursTooLong wanted) = lit≤ tt
number_small (BadSample place) = lit≤ tt
number_small (FaceMismatch at) = lit≤ tt
number_small (IndexStoreTooShort wanted) = lit≤ tt
number_small (NoRoom wanted) = lit≤ tt
number_small RecordLength = lit≤ tt
number_small (Version byte) = lit≤ tt
number_small (SampleCount wanted) = lit≤ tt
number_small (BufferTooShort wanted) = lit≤ tt
number_small (PointNeverSampled count) = lit≤ tt
number_small (StlLength wanted) = lit≤ tt
number_small (NoVertex triangle) = lit≤ tt
number_small BadFiller = lit≤ tt
number_small (ChangesTooShort wanted) = lit≤ tt
number_small VolumeSize = lit≤ tt
number_small VolumeLength = lit≤ tt
number_small FirstPoint = lit≤ tt
number_small (EdgesTooShort wanted) = lit≤ tt
number_small (LayerDiffers layer) = lit≤ tt

module _ (base : ℕ) (v : Verdict) (answer : ℕ) where
  pub packed_refused : (r : Refusal) → v ≡ Err r → base + (numbers_of r).number ≡ packed base v answer
  packed_refused r e = rw e

  pub packed_passed : v ≡ Ok tt → answer ≡ packed base v answer
  packed_passed e = rw e

-- ---- blank

pub blank_passed : (bytes : List ℕ) {b : Bool} → judge_record bytes ≡ Ok tt → b ≡ is_blank (star_of bytes) → cond b 1 0 ≡ blank_answer bytes
unfolding blank_answer
blank_passed bytes passed is = rw (passed, is)
