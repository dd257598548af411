-- `grid_point::difference_inside` meets its contract: both samples are read in the block.
use Rattle.points.proofs.grid_point.difference_inside.Goals as goal

pub returns : goal.returns
returns c = rw (c.value_in_block.ensures, c.value_in_block-2.ensures)
