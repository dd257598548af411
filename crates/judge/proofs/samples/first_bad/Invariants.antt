-- `judge::samples::first_bad` meets its contract. The invariant: no sample before this place is bad.
use Rattle.std.specs.Prelude.{Ok}
use Prim.Native.Nat.{◌≤◌}
use mathlib.Core.Path.{◌≡◌}
use lib.ListN.{length}
use Rattle.model.specs.Refusals.{first}
use Rattle.judge.specs.Counted.{usable_from}
use Rattle.judge.proofs.samples.first_bad.Given as goal

abbrev pub invariant-loop-place : goal.invariant-loop-place
invariant-loop-place l =
    (l.place ≤ length l.samples) × (first (usable_from l.from l.samples) l.place ≡ Ok tt)
