-- `transition::row_on` meets its contract. The loop's invariant: the places passed hold their cells' numbers and marks.
use Rattle.cases.specs.Sheets.{RowPut}
use Rattle.cases.specs.Marks.{all_transition, mark_of}
use Rattle.cases.specs.Faces.{nine_inside}
use Rattle.cases.proofs.transition.row_on.Given as goal

abbrev pub invariant-loop-v : goal.invariant-loop-v
invariant-loop-v l =
    RowPut (nine_inside l.threshold l.fine l.lines) l.start l.v l.initial.cases l.cases
    × RowPut (λ k. mark_of all_transition (nine_inside l.threshold l.fine l.lines k)) l.start l.v l.initial.marks l.marks
