-- `transition::rows_on` meets its contract. The loop's invariant: the rows passed have their numbers and marks.
use Prim.Native.Nat.{ℕ, ◌+◌}
use mathlib.Core.List.{List}
use lib.Ieee.{Float}
use Rattle.grid.specs.declared.face_walk.FaceWalk.{FaceWalk}
use Rattle.cases.specs.Sheets.{Sheet}
use Rattle.cases.specs.Marks.{all_transition, mark_of}
use Rattle.cases.specs.Faces.{OnWalk}
use Rattle.cases.proofs.transition.rows_on.Given as goal

pub record SoFar (n : ℕ) (threshold : Float) (fine : List Float) (walk : FaceWalk) (rows : ℕ) (cases₀ marks₀ : List ℕ) (at : ℕ) (cases marks : List ℕ) (u : ℕ)
    : Type 0 where
  pub numbers : (case : ℕ → ℕ → ℕ) → OnWalk case threshold fine n walk rows at → Sheet case n at cases₀ → Sheet case n (at + u) cases
  pub marked : (case : ℕ → ℕ → ℕ) → OnWalk case threshold fine n walk rows at → Sheet (λ j k. mark_of all_transition (case j k)) n at marks₀
      → Sheet (λ j k. mark_of all_transition (case j k)) n (at + u) marks

abbrev pub invariant-loop-u : goal.invariant-loop-u
invariant-loop-u l = SoFar l.n l.threshold l.fine l.walk l.rows l.initial.cases l.initial.marks l.at l.cases l.marks l.u
