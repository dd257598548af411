-- `first_bad` meets its contract. The loop's invariant: no sample passed is refused.
use Rattle.std.specs.Prelude.{◌≡◌, Err, Ok}
use Rattle.std.proofs.Common.{sym, arith}
use Rattle.model.specs.declared.Refusal.TheVariants.{BadSample}
use Rattle.judge.specs.First.{not_yet, hit}
use Rattle.record.specs.ReadingOrder.{sample_usable_at}
use Rattle.record.proofs.judging.first_bad.Goals as goal

pub returns-then-not-is_usable_at : goal.returns-then-not-is_usable_at
returns-then-not-is_usable_at c =
    let bytes = c.args.bytes.now in
    let k = c.loop-k.k in
    let here : sample_usable_at bytes k ≡ Err (BadSample k) =
    rw (← c.sample_from.ensures, ← c.is_usable_at.ensures, c.if-not-is_usable_at.true) in
    sym (hit (sample_usable_at bytes) k c.args.count (BadSample k) c.loop-k.invariant here (omega arith))

pub loop-k-preserved : goal.loop-k-preserved
loop-k-preserved c =
    let bytes = c.args.bytes.now in
    let k = c.loop-k.k in
    let here : sample_usable_at bytes k ≡ Ok tt =
    rw (← c.sample_from.ensures, ← c.is_usable_at.ensures, c.if-not-is_usable_at.false) in
    not_yet (sample_usable_at bytes) k c.loop-k.invariant here
