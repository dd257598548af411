-- `formulas::between_vectors` meets its contract, coordinate by coordinate.
use Rattle.points.proofs.formulas.between_vectors.Goals as goal

pub returns : goal.returns
returns c = cc
