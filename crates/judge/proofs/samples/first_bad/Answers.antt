-- `judge::samples::first_bad` meets its contract. The invariant: no sample before this place is bad.
use Rattle.std.specs.Prelude.{Err, Ok}
use Prim.Native.Nat.{◌+◌}
use mathlib.Core.Path.{◌≡◌, sym}
use borrow.Author.Rules.{rules}
use native.Mathlib.Omega.{arith}
use lib.ListN.{length}
use Rattle.model.specs.declared.Refusal.TheVariants.{BadSample}
use Rattle.judge.specs.First.{not_yet, hit}
use Rattle.judge.specs.Counted.{usable_from}
use Rattle.judge.proofs.samples.first_bad.Goals as goal

pub returns-then-not-is_usable : goal.returns-then-not-is_usable
returns-then-not-is_usable c =
    let turn = c.loop-place in
    let start = c.args in
    let bad = c.if-not-is_usable.true in
    let here :
    usable_from start.from start.samples.now turn.place ≡ Err (BadSample (start.from + turn.place)) =
    rw (← c.is_usable.ensures, bad)
    in
    sym (hit (usable_from start.from start.samples.now) turn.place (length start.samples.now) _ turn.invariant.1 here (search rules))

pub loop-place-preserved : goal.loop-place-preserved
loop-place-preserved c =
    let turn = c.loop-place in
    let start = c.args in
    let good = c.if-not-is_usable.false in
    let here : usable_from start.from start.samples.now turn.place ≡ Ok tt = rw (← c.is_usable.ensures, good) in
    (omega arith, not_yet (usable_from start.from start.samples.now) turn.place turn.invariant.1 here)

pub returns : goal.returns
returns c =
    let end : c.loop-place.place ≡ length c.args.samples.now = omega arith in
    sym (rw end at c.loop-place.invariant.1)
