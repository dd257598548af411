-- What the calls answer: a refusal, or what there is to tell where nothing is refused. Definitions only.
use Rattle.std.specs.Prelude.{ℕ, Float, Result}
use Rattle.model.specs.declared.Counts.{Counts}
use Rattle.model.specs.declared.Header.{Header}
use Rattle.model.specs.declared.PlaceKind.{PlaceKind}
use Rattle.model.specs.declared.Refusal.{Refusal}

-- of a judge: no refusal, or the first
abbrev pub Verdict : Type 0
Verdict = Result (Unit {0}) Refusal

-- a sample's value and where it is stored; or, of a point that was never sampled, how many of its coordinates are outside
abbrev pub Reading : Type 0
Reading = Result (Float × PlaceKind) ℕ

abbrev pub PointRead : Type 0
PointRead = Result (Float × PlaceKind) Refusal

abbrev pub Extraction : Type 0
Extraction = Result Counts Refusal

abbrev pub RecordRead : Type 0
RecordRead = Result Header Refusal

-- the length of the record that was written
abbrev pub RecordWritten : Type 0
RecordWritten = Result ℕ Refusal
