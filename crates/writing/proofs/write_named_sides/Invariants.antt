-- `write_named_sides` meets its contract: the mesh grows by one named side in each turn, and the sides between two named ones add nothing.
use Prim.Native.Nat.{◌+◌}
use mathlib.Core.Path.{◌≡◌}
use Rattle.model.specs.Limits.{most_subdivisions}
use Rattle.laws.specs.Steps.{total}
use Rattle.model.specs.Mesh.{transition_to}
use Rattle.model.specs.Reads.{side_reads}
use Rattle.points.specs.Grids.{star_of}
use Rattle.writing.proofs.Holding.{Come}
use Rattle.writing.proofs.write_named_sides.Given as goal

abbrev pub invariant-loop-side : goal.invariant-loop-side
invariant-loop-side l =
    let s = star_of l.grid in
    let from = l.side-iterator.from in
    (l.side-iterator.mask ≡ s.mask)
    × Come (transition_to s from 0 0) (l.initial.reads + total (side_reads s) from) (most_subdivisions + from) l.initial.out l.out l.cases l.marks l.counts l.reads
