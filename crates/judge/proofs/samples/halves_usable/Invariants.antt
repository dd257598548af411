-- `judge::samples::halves_usable` meets its contract. The invariant: the flag tells whether the samples before this place of each half can be used.
use Prim.Native.Nat.{◌≤◌}
use mathlib.Core.Path.{◌≡◌}
use mathlib.Core.Bool.{◌&&◌}
use Rattle.judge.specs.Counted.{all_usable, usable_after}
use Rattle.judge.proofs.samples.halves_usable.Given as goal

abbrev pub invariant-loop-place : goal.invariant-loop-place
invariant-loop-place l = (l.place ≤ l.half) × (l.usable ≡ (all_usable l.samples l.place && usable_after l.samples l.half l.place))
