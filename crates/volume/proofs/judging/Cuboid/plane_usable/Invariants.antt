-- `Cuboid::plane_usable` meets its contract. The invariant: the flag tells whether the rows passed can be used.
use Prim.Native.Nat.{◌≤◌}
use mathlib.Core.Path.{◌≡◌}
use Rattle.volume.specs.Boxes.{plane_usable}
use Rattle.volume.proofs.judging.Cuboid.plane_usable.Given as goal

abbrev pub invariant-loop-y : goal.invariant-loop-y
invariant-loop-y l = (l.y ≤ l.self.rows) × (l.usable ≡ plane_usable l.bytes l.self.from l.self.count l.self.step l.y)
