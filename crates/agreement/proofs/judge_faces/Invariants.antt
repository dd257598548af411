-- `judge_faces` meets its contract. The invariants: nothing is found yet, and no side, row or point passed over differs. The
-- places that the steps lead to are those of the face's points, so that the samples read there are the ones that the model compares.
use Rattle.std.specs.Prelude.{Ok}
use Prim.Native.Nat.{◌+◌, ◌≤◌}
use mathlib.Core.Path.{◌≡◌}
use Rattle.judge.specs.NamedSides.{GonePast}
use Rattle.agreement.specs.Faces.{pair_row, pair_rows, pair_face}
use Rattle.agreement.proofs.judge_faces.Given as goal

abbrev pub invariant-loop-v : goal.invariant-loop-v
invariant-loop-v l =
    (l.v ≤ l.n + 1) × (l.found ≡ Ok tt) × (pair_row l.n l.lent.header.threshold l.lent.centre.now l.fine l.side l.u l.v ≡ Ok tt)

abbrev pub invariant-loop-u : goal.invariant-loop-u
invariant-loop-u l =
    (l.u ≤ l.n + 1) × (l.found ≡ Ok tt) × (pair_rows l.n l.lent.header.threshold l.lent.centre.now l.fine l.side l.u ≡ Ok tt)

abbrev pub invariant-search : goal.invariant-search
invariant-search l =
    (l.found ≡ Ok tt) × GonePast l.lent.header.mask (pair_face l.n l.lent.header.mask l.lent.header.threshold l.lent.centre.now l.lent.neighbours.now)
    l.side-iterator.mask l.side-iterator.from
