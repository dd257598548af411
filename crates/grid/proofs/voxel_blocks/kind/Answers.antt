-- `grid::voxel_blocks::kind` meets its contract: its three calls are the definition's, axis by axis.
use Rattle.model.specs.Samples.{kind_of}
use Rattle.grid.proofs.voxel_blocks.kind.Goals as goal

pub returns : goal.returns
unfolding kind_of
returns c =
    rw (c.kind_across.ensures, c.kind_across-across_y.ensures, c.kind_across-across_z.ensures)
