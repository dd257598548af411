-- `Cuboid::row_usable` meets its contract. The invariant: the flag tells whether the samples passed can be used.
use Prim.Native.Nat.{◌≤◌}
use mathlib.Core.Path.{◌≡◌}
use Rattle.volume.specs.Boxes.{row_usable}
use Rattle.volume.proofs.judging.Cuboid.row_usable.Given as goal

abbrev pub invariant-loop-k : goal.invariant-loop-k
invariant-loop-k l = (l.k ≤ l.self.count) × (l.usable ≡ row_usable l.bytes l.self.from l.k)
