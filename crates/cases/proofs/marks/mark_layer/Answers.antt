-- `marks::mark_layer` meets its contract: the places that were lent come back with their marks.
use Prim.Native.Nat.{◌+◌, ◌*◌, ◌≤◌}
use mathlib.Core.Path.{◌≡◌, ◌∙◌}
use native.Mathlib.Nat.{zero-add}
use native.Mathlib.Omega.{arith}
use lib.ListN.{get_or, length, length-take}
use Rattle.cases.specs.Marks.{all_regular, mark_of}
use Rattle.cases.specs.RowPlaces.{rows_fit}
use Rattle.cases.specs.Rows.{first_more, part_put}
use Rattle.cases.proofs.marks.mark_layer.Goals as goal

pub loop-i-preserved : goal.loop-i-preserved
loop-i-preserved c =
    let l = c.loop-i in
    first_more _ l.i _ _ l.place-items l.invariant (omega (arith, c.loop-i-test.true, l.auto.place-items)) c.mark.ensures

pub returns : goal.returns
returns c =
    let a = c.args in
    let l = c.loop-i in
    let places = a.n * (a.n + 1) in
    let fits : 0 + places ≤ length a.marks.now = omega (arith, rows_fit a.n c.requires.0) in
    let long : length l.place-items ≡ places = l.auto.place-items ∙ simp length-take (omega arith) in
    part_put (λ i. mark_of all_regular (get_or a.cases.now i 0)) 0 places a.marks.now l.place-items fits long
    (λ k h. rw zero-add at (l.invariant.filled k (omega (arith, h, c.loop-i-test.false, long))))
