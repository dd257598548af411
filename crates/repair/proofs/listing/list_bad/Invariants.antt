-- `list_bad` meets its contract. The invariant: the changes of the samples passed are listed, one a sample at most.
use Prim.Native.Nat.{◌+◌, ◌≤◌}
use lib.ListN.{length}
use Rattle.laws.specs.Counting.{gather}
use Rattle.repair.specs.Definition.{filler_at}
use Rattle.repair.specs.Listed.{Listed}
use Rattle.repair.proofs.listing.list_bad.Given as goal

abbrev pub invariant-loop-place : goal.invariant-loop-place
invariant-loop-place l =
    (l.place ≤ length l.bits) × ((l.at ≤ l.from + l.place) × Listed l.initial.changes l.from (gather (filler_at l.list l.filler l.bits) l.place) l.at l.changes)
