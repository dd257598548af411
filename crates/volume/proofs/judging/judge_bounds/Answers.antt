-- `judge_bounds` meets its contract: 21, or else 22.
use Rattle.laws.specs.Exits.{handed_on}
use Rattle.volume.proofs.judging.judge_bounds.Goals as goal

pub returns-in_err-unless : goal.returns-in_err-unless
returns-in_err-unless c = rw (handed_on _ _ c.from_residual.ensures.1, ← c.unless.ensures, c.in_err-unless.was)

pub returns : goal.returns
returns c = rw (← c.unless.ensures, c.in_ok-unless.was) c.unless-2.ensures
