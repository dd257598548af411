-- `count_bad` meets its contract. The invariant: so many of the samples passed have a change.
use Prim.Native.Nat.{◌-◌, ◌≤◌}
use mathlib.Core.Path.{◌≡◌}
use lib.ListN.{length}
use Rattle.laws.specs.Counting.{gather}
use Rattle.repair.specs.Definition.{filler_at}
use Rattle.repair.proofs.listing.count_bad.Given as goal

abbrev pub invariant-loop-place : goal.invariant-loop-place
invariant-loop-place l = (l.place ≤ length l.bits) × ((l.bad ≤ l.place) × (l.bad ≡ length (gather (filler_at l.list l.filler l.bits) l.place)))
