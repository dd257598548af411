-- `judge::judge_star` meets its contract: what 1 to 6 refuse is refused so, and what they let pass is left to 7.
use Rattle.laws.specs.Exits.{handed_on}
use Rattle.model.specs.Judging.{judge_star}
use Rattle.judge.proofs.judge_star.Goals as goal

pub returns-in_err-judge_lent : goal.returns-in_err-judge_lent
unfolding judge_star
returns-in_err-judge_lent c =
    rw (handed_on _ _ c.from_residual.ensures.1, ← c.judge_lent.ensures, c.in_err-judge_lent.was)

pub returns : goal.returns
unfolding judge_star
returns c = rw (← c.judge_lent.ensures, c.in_ok-judge_lent.was) c.judge_samples.ensures
