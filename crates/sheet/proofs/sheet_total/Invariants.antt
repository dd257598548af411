-- `sheet_total` meets its contract. The loop's invariant: the lines passed are added up, and what they add is small for each byte passed.
use Prim.Native.Nat.{◌-◌, ◌*◌, ◌≤◌}
use lib.ListN.{length}
use Rattle.sheet.specs.Sizes.{most_layers, Small}
use Rattle.sheet.specs.Totals.{SoFar}
use Rattle.sheet.proofs.sheet_total.Given as goal

abbrev pub invariant-loop-at : goal.invariant-loop-at
invariant-loop-at l = (l.at ≤ length l.run) × (Small (most_layers * l.at) l.sum × SoFar l.run l.at l.sum)

abbrev pub decreases-loop-at : goal.decreases-loop-at
decreases-loop-at l = length l.run - l.at
