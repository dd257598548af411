-- `grid_point::fine_gradient` meets its contract: the centre's gradient at a point whose offsets are both even, else the neighbour's.
use Rattle.points.proofs.grid_point.fine_gradient.Goals as goal

pub returns-then-at : goal.returns-then-at
returns-then-at c = rw c.if-at.true cc

pub returns : goal.returns
returns c = rw c.if-at.false cc
