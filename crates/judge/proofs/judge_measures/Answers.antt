-- `judge::judge_measures` meets its contract: base, then size, then threshold.
use Rattle.laws.specs.Exits.{handed_on}
use Rattle.model.specs.Judging.{judge_measures}
use Rattle.judge.proofs.judge_measures.Goals as goal

pub returns-in_err-judge_base : goal.returns-in_err-judge_base
unfolding judge_measures
returns-in_err-judge_base c = rw (handed_on _ _ c.from_residual.ensures.1, ← c.judge_base.ensures, c.in_err-judge_base.was)

pub returns-in_err-unless : goal.returns-in_err-unless
unfolding judge_measures
returns-in_err-unless c =
    rw (
      handed_on _ _ c.from_residual-in_err-unless.ensures.1,
      ← c.judge_base.ensures,
      c.in_ok-judge_base.was,
      ← c.is_usable_size.ensures,
      ← c.unless.ensures,
      c.in_err-unless.was,
    )

pub returns : goal.returns
unfolding judge_measures
returns c =
    rw (
      ← c.judge_base.ensures,
      c.in_ok-judge_base.was,
      ← c.is_usable_size.ensures,
      ← c.unless.ensures,
      c.in_ok-unless.was,
      ← c.is_usable.ensures,
    )
    c.unless-2.ensures
