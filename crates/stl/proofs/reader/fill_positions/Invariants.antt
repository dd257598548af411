-- `fill_positions` meets its contract. The invariant: the corners of the triangles passed stand in the first places.
use Prim.Native.Nat.{◌≤◌}
use mathlib.Core.Path.{◌≡◌}
use lib.ListN.{length}
use lib.Seq.{sets}
use Rattle.laws.specs.Counting.{gather}
use Rattle.stl.specs.Definition.{corners_in}
use Rattle.stl.proofs.reader.fill_positions.Given as goal

abbrev pub invariant-loop-t : goal.invariant-loop-t
invariant-loop-t l =
    (l.t ≤ l.count) × (length l.positions ≡ length l.initial.positions) × (l.positions ≡ sets l.initial.positions 0 (gather (corners_in l.bytes) l.t))
