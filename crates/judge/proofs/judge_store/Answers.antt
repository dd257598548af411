-- `judge::judge_store` meets its contract by what its calls ensure.
use Rattle.judge.proofs.judge_store.Goals as goal

pub returns : goal.returns
returns c = cc
