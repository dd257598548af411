-- `Damaged::list_mismatches` meets its contract. The invariant: the changes of the spots passed are listed, one a spot at most.
use Prim.Native.Nat.{◌+◌, ◌≤◌}
use Rattle.laws.specs.Counting.{gather}
use Rattle.repair.specs.Damaged.{delivered}
use Rattle.repair.specs.Filled.{filled_in}
use Rattle.repair.specs.Faces.{spot_count, mismatch_spot}
use Rattle.repair.specs.Listed.{Listed}
use Rattle.repair.proofs.samples.Damaged.list_mismatches.Given as goal

abbrev pub invariant-loop-k : goal.invariant-loop-k
invariant-loop-k l = (l.k ≤ spot_count l.self.header.block.subdivisions)
    × ((l.at ≤ l.from + l.k) × Listed l.initial.changes l.from (gather (mismatch_spot l.self.header (filled_in l.self.filler (delivered l.self))) l.k) l.at l.changes)
