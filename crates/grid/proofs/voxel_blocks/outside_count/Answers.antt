-- `grid::voxel_blocks::outside_count` meets its contract: each coordinate counts as one at most.
use Rattle.model.specs.Samples.{outside_count}
use Rattle.grid.proofs.voxel_blocks.outside_count.Goals as goal

pub returns : goal.returns
unfolding outside_count
returns c =
    rw (c.is_outside.ensures.0, c.is_outside-2.ensures.0, c.is_outside-3.ensures.0)
