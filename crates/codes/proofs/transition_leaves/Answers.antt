-- `transition_leaves` meets its contract by what the fields of a code are. Assumes nothing.
use Rattle.model.specs.Mesh.{transition_leaves}
use Rattle.codes.proofs.transition_leaves.Goals as goal

pub returns : goal.returns
unfolding transition_leaves
returns c = cc
