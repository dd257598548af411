-- `Cuboid::is_usable` meets its contract. The invariant: the flag tells whether the planes passed can be used.
use Prim.Native.Nat.{◌≤◌}
use mathlib.Core.Path.{◌≡◌}
use Rattle.volume.specs.Boxes.{box_usable}
use Rattle.volume.proofs.judging.Cuboid.is_usable.Given as goal

abbrev pub invariant-loop-z : goal.invariant-loop-z
invariant-loop-z l = (l.z ≤ l.self.planes) × (l.usable ≡ box_usable l.bytes l.self.from l.self.count l.self.step l.self.rows l.self.stride l.z)
