-- `fill_cell` meets its contract. The loop's invariant: the buffers are as the definition's first k vertices leave them.
-- Assumes nothing.
use Rattle.model.specs.Mesh.{fill_to}
use Rattle.points.specs.Grids.{star_of}
use Rattle.codes.specs.Rows.{rows_cell}
use Rattle.vertices.specs.Puts.{FillPut}
use Rattle.vertices.proofs.fill_cell.Given as goal

abbrev pub invariant-loop-k : goal.invariant-loop-k
invariant-loop-k l =
    FillPut (fill_to (rows_cell (star_of l.grid) l.cell) l.base l.initial.store l.k) l.base l.initial.vertices l.made.index l.made.count l.next l.reads l.vertices l.store
