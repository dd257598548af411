-- `marks::mark_layer` meets its contract. The loop's invariant: the places passed hold their marks.
use lib.ListN.{get_or}
use Rattle.cases.specs.Sheets.{RowPut}
use Rattle.cases.specs.Marks.{all_regular, mark_of}
use Rattle.cases.proofs.marks.mark_layer.Given as goal

abbrev pub invariant-loop-i : goal.invariant-loop-i
invariant-loop-i l = RowPut (λ k. mark_of all_regular (get_or l.cases k 0)) 0 l.i l.initial.place-items l.place-items
