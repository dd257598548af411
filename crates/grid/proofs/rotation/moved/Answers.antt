-- `grid::rotation::moved` meets its contract.
use Rattle.grid.proofs.rotation.moved.Goals as goal

pub returns : goal.returns
returns c = cc
