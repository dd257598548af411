-- `judge::samples::judge_samples` meets its contract: the two lists are judged one after the other, and pass if all can be used.
use Rattle.laws.specs.Exits.{handed_on}
use Rattle.judge.specs.Counted.{both_usable, one_after_the_other}
use Rattle.judge.proofs.samples.judge_samples.Goals as goal

pub returns-then-all_usable : goal.returns-then-all_usable
returns-then-all_usable c =
    let lent = c.args in
    both_usable lent.centre.now lent.neighbours.now c.all_usable.ensures c.all_usable-2.ensures
    c.if-all_usable.true

pub returns-in_err-first_bad : goal.returns-in_err-first_bad
returns-in_err-first_bad c =
    rw (handed_on _ _ c.from_residual.ensures.1, one_after_the_other, ← c.first_bad.ensures, c.in_err-first_bad.was)

pub returns : goal.returns
returns c = rw (one_after_the_other, ← c.first_bad.ensures, c.in_ok-first_bad.was) c.first_bad-2.ensures
