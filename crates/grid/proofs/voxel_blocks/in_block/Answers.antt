-- `grid::voxel_blocks::in_block_lem` meets its contract: the nest comes to the definition's sum, which is below m^3 and so fits.
use Prim.Native.Nat.{◌+◌, ◌*◌, ◌<◌}
use native.Mathlib.Omega.{arith}
use Rattle.model.specs.Samples.{in_block}
use Rattle.grid.specs.Places.{small, in_block_lem}
use Rattle.grid.proofs.voxel_blocks.in_block.Goals as goal
use Rattle.grid.proofs.voxel_blocks.in_block.Goals.{Start}

below : (c : Start) → in_block c.args.n c.args.x c.args.y c.args.z < (c.args.n + 1) * (c.args.n + 1) * (c.args.n + 1)
below c = in_block_lem c.args.n c.args.x c.args.y c.args.z c.requires.1.0 c.requires.1.1.0 c.requires.1.1.1

pub returns : goal.returns
returns c = omega (arith, c.nest.ensures, below (goal.at.returns c).Start)

pub nest-requires : goal.nest-requires
nest-requires c = omega (arith, below c, small c.args.n c.requires.0)
