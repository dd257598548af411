-- `counted_points::crossings` meets its contract. The loop's invariant: what is found is the sum over the edges passed.
use Rattle.std.specs.Prelude.{◌≡◌, ◌≤◌, length}
use Rattle.sheet.specs.Planes.{crossing_sum}
use Rattle.sheet.proofs.counted_points.crossings.Given as goal

abbrev pub invariant-loop-from : goal.invariant-loop-from
invariant-loop-from l = (l.found ≡ crossing_sum l.threshold l.a 0 l.b 0 (length l.yielded)) × (l.found ≤ length l.yielded)
