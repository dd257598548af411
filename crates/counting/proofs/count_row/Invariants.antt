-- `count_row` meets its contract: what each marked cell adds is added up, and the others add nothing.
use Rattle.model.specs.Star.{Star}
use Rattle.cells.specs.SheetCells.{sheet_cell}
use Rattle.cells.specs.Puts.{Few}
use Rattle.walk.specs.Order.{LentHeld, row_to}
use Rattle.walk.specs.Rows.{SameRow}
use Rattle.counting.specs.Counting.{Grows}
use Rattle.counting.proofs.count_row.Given as goal

abbrev pub invariant-loop-v : goal.invariant-loop-v
invariant-loop-v l =
    let walk = l.v-iterator in
    SameRow l.n l.sheet.marks.now l.start walk.n walk.marks.now walk.start
    × (Few walk.from l.counts × ((s : Star) → LentHeld s l.n l.sheet → Grows (row_to (sheet_cell s l.sheet.index l.u) walk.from) l.counts))
