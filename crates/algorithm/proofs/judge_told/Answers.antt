-- `judge_told` meets its contract: a summary that is not there tells nothing.
use Rattle.std.proofs.Common.{sym}
use Rattle.layers.specs.Over.{no_summary, held_there, numbers_there}
use Rattle.algorithm.proofs.judge_told.Goals as goal

pub judge_summary-requires : goal.judge_summary-requires
judge_summary-requires c = (held_there _ c.requires, numbers_there _ c.requires)

pub returns-in-Some : goal.returns-in-Some
returns-in-Some c = rw c.in-Some.is c.judge_summary.ensures

pub returns-in-None : goal.returns-in-None
returns-in-None c = rw c.in-None.is (sym (no_summary _ _))
