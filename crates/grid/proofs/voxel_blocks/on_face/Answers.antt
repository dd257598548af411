-- `grid::voxel_blocks::on_face` meets its contract: the nest comes to the definition's sum, which is one of the block's places and so fits.
use Prim.Native.Nat.{◌<◌}
use native.Mathlib.Omega.{arith}
use Rattle.model.specs.Samples.{sample_length, on_face}
use Rattle.grid.specs.Places.{small, on_face_lem}
use Rattle.grid.proofs.voxel_blocks.on_face.Goals as goal
use Rattle.grid.proofs.voxel_blocks.on_face.Goals.{Start}

below : (c : Start) → on_face c.args.n c.args.face c.args.i c.args.j < sample_length c.args.n
below c = on_face_lem c.args.n c.args.face c.args.i c.args.j c.requires.1.0 c.requires.1.1.0 c.requires.1.1.1

pub returns : goal.returns
returns c = omega (arith, c.nest.ensures, below (goal.at.returns c).Start)

pub nest-requires : goal.nest-requires
nest-requires c = omega (arith, below c, small c.args.n c.requires.0)
