-- `sides::face_cases` meets its contract. The loop's invariant: the rows passed have their numbers and marks.
use Prim.Native.Nat.{ℕ}
use mathlib.Core.Path.{◌≡◌}
use mathlib.Core.List.{List}
use lib.ListN.{length}
use Rattle.model.specs.Points.{transition_case}
use Rattle.model.specs.Record.{star_of}
use Rattle.cases.specs.Sheets.{sheet_places, Sheet}
use Rattle.cases.specs.Marks.{all_transition, mark_of}
use Rattle.sheet.proofs.sides.face_cases.Given as goal

pub record SoFar (src : List ℕ) (side n : ℕ) (cases marks : List ℕ) (u : ℕ) : Type 0 where
  pub cases_long : length cases ≡ sheet_places
  pub marks_long : length marks ≡ sheet_places
  pub numbers : Sheet (transition_case (star_of src) side) n u cases
  pub marked : Sheet (λ j k. mark_of all_transition (transition_case (star_of src) side j k)) n u marks

abbrev pub invariant-loop-u : goal.invariant-loop-u
invariant-loop-u l = SoFar l.src.bytes.now l.side l.n l.cases l.marks l.u
