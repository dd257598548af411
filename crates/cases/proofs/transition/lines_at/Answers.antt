-- `transition::lines_at` meets its contract: each line starts where its steps along u lead.
use Rattle.cases.proofs.transition.lines_at.Goals as goal

pub returns : goal.returns
returns c = cc
