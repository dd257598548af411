-- `put_faces` meets its contract. The invariant: the faces passed are put.
use Prim.Native.Nat.{◌≤◌}
use mathlib.Core.Path.{◌≡◌}
use lib.ListN.{length}
use Rattle.volume.specs.Putting.{FacesPut}
use Rattle.volume.proofs.filling.put_faces.Given as goal

abbrev pub invariant-loop-side : goal.invariant-loop-side
invariant-loop-side l =
    (l.side ≤ 2) × (length l.samples ≡ length l.initial.samples) × FacesPut l.n l.bytes l.xs l.across l.along l.square l.side l.initial.samples l.samples
