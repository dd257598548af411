-- `first_unnamed` meets its contract. The invariant: each triangle before this one names a vertex with each corner, and the rest is still to come.
use Rattle.std.specs.Prelude.{Ok}
use Prim.Native.Nat.{◌*◌, ◌≤◌}
use mathlib.Core.Path.{◌≡◌}
use lib.ListN.{length, drop}
use Rattle.model.specs.Refusals.{first}
use Rattle.naming.specs.Corners.{named_spot}
use Rattle.naming.proofs.first_unnamed.Given as goal

abbrev pub invariant-loop-t : goal.invariant-loop-t
invariant-loop-t l =
    (l.t-iterator.iter.size ≡ 3) × (3 * l.t-iterator.count ≤ length l.triangles)
    × (l.t-iterator.iter.rest.now ≡ drop (3 * l.t-iterator.count) l.triangles)
    × (first (named_spot l.held l.triangles) l.t-iterator.count ≡ Ok tt)
