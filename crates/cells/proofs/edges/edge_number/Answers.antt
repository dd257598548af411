-- `edges::edge_number` meets its contract, for each kind of cell. Assumes nothing.
use Rattle.model.specs.Mesh.{regular_use, transition_use}
use Rattle.vertices.specs.Uses.{regular_in}
use Rattle.cells.proofs.edges.edge_number.Goals as goal

pub regular_edge-requires : goal.regular_edge-requires
regular_edge-requires c =
    (c.requires.0, regular_in c.in-Regular.is c.requires.1)

pub returns-in-Regular : goal.returns-in-Regular
unfolding regular_use
returns-in-Regular c = λ s e. rw (c.in-Regular.is, e) c.regular_edge.ensures

pub returns-in-Transition : goal.returns-in-Transition
unfolding transition_use
returns-in-Transition c = λ s e. rw c.in-Transition.is
