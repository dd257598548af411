-- `judge_measures` meets its contract. The loop's invariant: no measure passed is refused.
use Rattle.std.specs.Prelude.{ℕ, ◌≡◌, List, Err, Ok}
use Rattle.std.proofs.Common.{sym, arith}
use Rattle.model.specs.declared.Refusal.TheVariants.{Measure}
use Rattle.model.specs.Answers.{Verdict}
use Rattle.model.specs.Refusals.{unless}
use Rattle.model.specs.Judging.{measure_usable, judge_measures}
use Rattle.model.specs.Record.{header_of}
use Rattle.judge.specs.First.{not_yet, hit}
use Rattle.record.proofs.judging.judge_measures.Goals as goal

abbrev judged : List ℕ → ℕ → Verdict
judged bytes which = unless (measure_usable (header_of bytes).block (header_of bytes).threshold which) (Measure which)

pub returns-then-not-is_measure_usable : goal.returns-then-not-is_measure_usable
unfolding judge_measures
returns-then-not-is_measure_usable c =
    let bytes = c.args.bytes.now in
    let which = c.loop-which.which in
    let here : judged bytes which ≡ Err (Measure which) = rw (← c.is_measure_usable.ensures, c.if-not-is_measure_usable.true) in
    sym (hit (judged bytes) which 5 (Measure which) c.loop-which.invariant here (omega arith))

pub loop-which-preserved : goal.loop-which-preserved
loop-which-preserved c =
    let bytes = c.args.bytes.now in
    let which = c.loop-which.which in
    let here : judged bytes which ≡ Ok tt = rw (← c.is_measure_usable.ensures, c.if-not-is_measure_usable.false) in
    not_yet (judged bytes) which c.loop-which.invariant here

pub returns : goal.returns
unfolding judge_measures
returns c =
    let all : c.loop-which.which ≡ 5 = omega arith in
    sym (rw all at c.loop-which.invariant)
