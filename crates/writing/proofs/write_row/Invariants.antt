-- `write_row` meets its contract: the mesh grows by each marked cell, and the others make nothing.
use Rattle.points.specs.Grids.{star_of}
use Rattle.cells.specs.SheetCells.{sheet_cell}
use Rattle.walk.specs.Order.{row_to, row_before}
use Rattle.walk.specs.Rows.{SameRow}
use Rattle.writing.proofs.Holding.{SoFar}
use Rattle.writing.proofs.write_row.Given as goal

abbrev pub invariant-loop-v : goal.invariant-loop-v
invariant-loop-v l =
    let s = star_of l.grid in
    let walk = l.v-iterator in
    SameRow l.n l.sheet.marks.now l.start walk.n walk.marks.now walk.start
    × SoFar (row_to (sheet_cell s l.sheet.index l.u) walk.from (row_before s l.sheet.index l.u)) l.counts l.initial.out l.out
