-- `judge::lengths::judge_centre` meets its contract by what its calls ensure.
use Rattle.judge.proofs.lengths.judge_centre.Goals as goal

pub returns : goal.returns
returns c = cc
