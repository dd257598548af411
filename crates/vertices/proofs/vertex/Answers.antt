-- `vertex` meets its contract, for each kind of cell. Assumes nothing.
use Rattle.model.specs.Mesh.{regular_use, transition_use}
use Rattle.vertices.specs.Uses.{regular_in}
use Rattle.vertices.proofs.vertex.Goals as goal

pub regular_vertex-requires : goal.regular_vertex-requires
regular_vertex-requires c =
    record { in_block = regular_in c.in-Regular.is c.requires.ready.placed }

pub transition_vertex-requires : goal.transition_vertex-requires
transition_vertex-requires c =
    rw (← c.in-Transition.is) c.requires

pub returns-in-Regular : goal.returns-in-Regular
unfolding regular_use
returns-in-Regular c =
    rw c.in-Regular.is (c.regular_vertex.ensures c.args.grid.now.lent.neighbours.now)

pub returns-in-Transition : goal.returns-in-Transition
unfolding transition_use
returns-in-Transition c = rw c.in-Transition.is c.transition_vertex.ensures
