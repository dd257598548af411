-- `write_regular_cells` meets its contract: the mesh grows by one layer in each turn, the layers that are passed over make nothing, and what the case
-- numbers of the others read is counted.
use Rattle.laws.specs.Steps.{total}
use Rattle.model.specs.Mesh.{regular_to}
use Rattle.model.specs.LayeredReads.{layer_reads}
use Rattle.points.specs.Grids.{star_of}
use Rattle.walk.specs.Layers.{SameWalk}
use Rattle.writing.proofs.Holding.{Come}
use Rattle.writing.proofs.write_regular_cells.Given as goal

abbrev pub invariant-loop-x : goal.invariant-loop-x
invariant-loop-x l =
    let s = star_of l.grid in
    let walk = l.x-iterator in
    SameWalk l.n l.header.threshold l.summary walk.n walk.threshold walk.summary.now
    × Come (regular_to s walk.from 0 0) (total (layer_reads s l.summary) walk.from) walk.from l.initial.out l.out l.cases l.marks l.counts l.reads
