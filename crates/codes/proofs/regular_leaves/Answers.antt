-- `regular_leaves` meets its contract by what the fields of a code are. Assumes nothing.
use Rattle.model.specs.Mesh.{regular_leaves}
use Rattle.codes.proofs.regular_leaves.Goals as goal

pub returns : goal.returns
unfolding regular_leaves
returns c = cc
