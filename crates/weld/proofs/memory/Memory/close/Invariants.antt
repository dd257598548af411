-- `Memory::close` meets its contract. The invariant: the vertices before i are welded, whatever the lists were before, and the table has their
-- new indices. Assumes nothing.
use Prim.Native.Nat.{◌≤◌}
use Rattle.weld.specs.Leaves.{AsLong, Window}
use Rattle.weld.proofs.memory.Memory.close.Given as goal

abbrev pub invariant-loop-i : goal.invariant-loop-i
invariant-loop-i g l =
    ((l.start ≤ l.i) × (l.i ≤ l.end)) × (AsLong l.initial.vertices l.vertices l.initial.edges l.edges l.initial.self.seen l.self.seen l.initial.self.hints l.self.hints l.initial.self.table l.self.table × Window l.start l.i l.first l.initial.vertices l.initial.edges l.k l.vertices l.edges l.self.seen l.self.table)
