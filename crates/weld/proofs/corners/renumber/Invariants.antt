-- `corners::renumber` meets its contract. The invariant: the corners before this one are renumbered, and the others stand as they were. Assumes nothing.
use Prim.Native.Nat.{◌≤◌}
use mathlib.Core.Path.{◌≡◌}
use mathlib.Core.List.{map}
use lib.ListN.{length, take}
use Rattle.laws.specs.Steps.{laid}
use Rattle.weld.specs.Leaves.{corner_by}
use Rattle.weld.proofs.corners.renumber.Given as goal

abbrev pub invariant-loop-place : goal.invariant-loop-place
invariant-loop-place l = (l.place-index ≤ length l.triangles) × ((length l.triangles ≡ length l.initial.triangles) × (l.triangles ≡ laid (map (corner_by l.table l.start l.end) (take l.place-index l.initial.triangles)) l.initial.triangles))
