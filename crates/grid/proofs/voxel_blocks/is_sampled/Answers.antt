-- `grid::voxel_blocks::is_sampled` meets its contract: at most one coordinate is outside, by one step.
use Rattle.model.specs.Samples.{sampled}
use Rattle.grid.proofs.voxel_blocks.is_sampled.Goals as goal

pub returns : goal.returns
unfolding sampled
returns c =
    rw (c.outside_by.ensures.0, c.outside_by-2.ensures.0, c.outside_by-3.ensures.0)
