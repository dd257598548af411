-- `Damaged::count_mismatches` meets its contract. The invariant: so many of the spots passed have a change.
use Prim.Native.Nat.{◌-◌, ◌≤◌}
use mathlib.Core.Path.{◌≡◌}
use lib.ListN.{length}
use Rattle.laws.specs.Counting.{gather}
use Rattle.repair.specs.Damaged.{delivered}
use Rattle.repair.specs.Filled.{filled_in}
use Rattle.repair.specs.Faces.{spot_count, mismatch_spot}
use Rattle.repair.proofs.samples.Damaged.count_mismatches.Given as goal

abbrev pub invariant-loop-k : goal.invariant-loop-k
invariant-loop-k l = (l.k ≤ spot_count l.self.header.block.subdivisions)
    × ((l.count ≤ l.k) × (l.count ≡ length (gather (mismatch_spot l.self.header (filled_in l.self.filler (delivered l.self))) l.k)))
