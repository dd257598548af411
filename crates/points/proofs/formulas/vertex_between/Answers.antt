-- `formulas::vertex_between` meets its contract: both vectors are taken with one weight.
use Rattle.points.proofs.formulas.vertex_between.Goals as goal

pub returns : goal.returns
returns c = cc
