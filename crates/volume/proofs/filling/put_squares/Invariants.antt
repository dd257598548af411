-- `put_squares` meets its contract. The invariant: the lines passed are put, of each square.
use Prim.Native.Nat.{◌+◌, ◌≤◌}
use mathlib.Core.Path.{◌≡◌}
use lib.ListN.{length}
use Rattle.volume.specs.Putting.{SquaresPut}
use Rattle.volume.proofs.filling.put_squares.Given as goal

abbrev pub invariant-loop-y : goal.invariant-loop-y
invariant-loop-y l =
    (l.y ≤ l.n + 1) × (length l.samples ≡ length l.initial.samples) × SquaresPut l.bytes l.axes.xs l.axes.ys l.axes.zs l.n l.y l.initial.samples l.samples
