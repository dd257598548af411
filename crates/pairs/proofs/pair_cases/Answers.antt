-- `pair_cases` meets its contract. The loop's invariant: the places passed hold their cells' numbers.
use Prim.Native.Nat.{◌+◌, ◌≤◌}
use mathlib.Core.Path.{◌≡◌, ◌∙◌}
use native.Mathlib.Omega.{arith}
use native.Mathlib.Nat.{zero-add}
use lib.ListN.{length, length-take}
use Rattle.cases.specs.Pairs.{of_pairs}
use Rattle.cases.specs.RowPlaces.{rows_fit}
use Rattle.cases.specs.Rows.{first_more, part_put}
use Rattle.pairs.proofs.pair_cases.Goals as goal

pub loop-i-preserved : goal.loop-i-preserved
loop-i-preserved c =
    let l = c.loop-i in
    first_more _ l.i _ _ l.case-items l.invariant (omega (arith, c.loop-i-test.true, l.auto.case-items)) c.of_pairs.ensures

pub returns : goal.returns
returns c =
    let a = c.args in
    let l = c.loop-i in
    let places = c.saturating_sub-places.result in
    let fits : 0 + places ≤ length a.cases.now = omega (arith, rows_fit a.n c.requires.n_le_most_subdivisions, c.saturating_sub-places.ensures) in
    let long : length l.case-items ≡ places = l.auto.case-items ∙ simp length-take (omega arith) in
    rw (← c.saturating_sub-places.ensures) (part_put (of_pairs (a.n + 1) a.pairs.now) 0 places a.cases.now l.case-items fits long
    (λ k h. rw zero-add at (l.invariant.filled k (omega (arith, h, c.loop-i-test.false, long)))))
