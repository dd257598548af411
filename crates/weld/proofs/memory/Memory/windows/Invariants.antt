-- `Memory::windows` meets its contract. The invariant: the vertices of the windows passed are welded, and the corners that name them renumbered.
-- Assumes nothing.
use Prim.Native.Nat.{◌-◌}
use Rattle.weld.specs.Leaves.{Between}
use Rattle.weld.proofs.memory.Memory.windows.Given as goal

abbrev pub invariant-loop-start : goal.invariant-loop-start
invariant-loop-start g l =
    Between l.v g.row.PLACES l.initial.vertices l.initial.triangles l.initial.edges l.initial.self.seen l.initial.self.hints l.initial.self.table l.vertices l.triangles l.edges l.self.seen l.self.hints l.self.table l.k l.start

abbrev pub decreases-loop-start : goal.decreases-loop-start
decreases-loop-start g l = l.v - l.start
