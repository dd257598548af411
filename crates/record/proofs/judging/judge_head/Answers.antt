-- `judge_head` meets its contract: each judge in turn refuses, and that is the first refusal of the chain, or passes and the chain goes on.
use Rattle.laws.specs.Exits.{handed_on}
use Rattle.record.proofs.judging.judge_head.Goals as goal

pub returns-in_err-unless : goal.returns-in_err-unless
returns-in_err-unless c = rw (handed_on _ _ c.from_residual.ensures.1, ← c.from-version.ensures, ← c.unless.ensures, c.in_err-unless.was)
