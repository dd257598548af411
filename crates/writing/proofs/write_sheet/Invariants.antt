-- `write_sheet` meets its contract: the mesh grows by one row in each turn.
use Prim.Native.Nat.{◌≤◌}
use Rattle.points.specs.Grids.{subdivisions_of, star_of}
use Rattle.walk.specs.Order.{row_before}
use Rattle.writing.proofs.Holding.{SoFar}
use Rattle.writing.proofs.write_sheet.Given as goal

abbrev pub invariant-loop-u : goal.invariant-loop-u
invariant-loop-u l = (l.u ≤ subdivisions_of l.grid) × SoFar (row_before (star_of l.grid) l.sheet.index l.u) l.counts l.initial.out l.out
