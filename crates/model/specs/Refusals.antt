-- Document 01, 'Answers by number', and document 02: the number and three numbers of each refusal, and the first refusal of several.
-- Definitions only.
use Rattle.std.specs.Prelude.{ℕ, zero, suc, Bool, true, false, Err, Ok}
use Rattle.model.specs.declared.Refusal.{Refusal}
use Rattle.model.specs.declared.Refusal.TheVariants.{Subdivisions, Mask, Measure, CentreLength, MissingNeighbour, NeighboursTooLong, BadSample, FaceMismatch, IndexStoreTooShort, NoRoom, RecordLength, Version, SampleCount, BufferTooShort, PointNeverSampled, StlLength, NoVertex, BadFiller, ChangesTooShort, VolumeSize, VolumeLength, FirstPoint, EdgesTooShort, LayerDiffers}
use Rattle.model.specs.declared.Numbers.{Numbers}
use Rattle.model.specs.Answers.{Verdict}

abbrev pub numbers : ℕ → ℕ → ℕ → ℕ → Numbers
numbers number first second third = record { number = number; first = first; second = second; third = third }

abbrev pub numbers_of : Refusal → Numbers
numbers_of (Subdivisions n) = numbers 1 n 0 0
numbers_of (Mask mask) = numbers 2 mask 0 0
numbers_of (Measure which) = numbers 3 which 0 0
numbers_of (CentreLength wanted) = numbers 4 wanted 0 0
numbers_of (MissingNeighbour side) = numbers 5 side 0 0
numbers_of (NeighboursTooLong wanted) = numbers 6 wanted 0 0
numbers_of (BadSample place) = numbers 7 place 0 0
numbers_of (FaceMismatch at) = numbers 8 at.side at.u at.v
numbers_of (IndexStoreTooShort wanted) = numbers 9 wanted 0 0
numbers_of (NoRoom wanted) = numbers 10 wanted.vertices wanted.triangles 0
numbers_of RecordLength = numbers 11 0 0 0
numbers_of (Version byte) = numbers 12 byte 0 0
numbers_of (SampleCount wanted) = numbers 13 wanted 0 0
numbers_of (BufferTooShort wanted) = numbers 14 wanted 0 0
numbers_of (PointNeverSampled count) = numbers 15 count 0 0
numbers_of (StlLength wanted) = numbers 16 wanted 0 0
numbers_of (NoVertex triangle) = numbers 17 triangle 0 0
numbers_of BadFiller = numbers 18 0 0 0
numbers_of (ChangesTooShort wanted) = numbers 19 wanted 0 0
numbers_of VolumeSize = numbers 20 0 0 0
numbers_of VolumeLength = numbers 21 0 0 0
numbers_of FirstPoint = numbers 22 0 0 0
numbers_of (EdgesTooShort wanted) = numbers 23 wanted 0 0
numbers_of (LayerDiffers layer) = numbers 26 layer 0 0

-- the refusal, unless the test holds
abbrev pub unless : Bool → Refusal → Verdict
unless true r = Ok tt
unless false r = Err r

abbrev pub or_else : Verdict → Verdict → Verdict
or_else (Err r) v = Err r
or_else (Ok _) v = v

-- the first refusal of f 0, f 1, .., f (k - 1)
abbrev pub first : (ℕ → Verdict) → ℕ → Verdict
first f zero = Ok tt
first f (suc k) = or_else (first f k) (f k)
