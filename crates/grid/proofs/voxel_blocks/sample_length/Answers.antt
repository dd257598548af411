-- `grid::voxel_blocks::sample_length` meets its contract: up to the most subdivisions of a neighbour nothing wraps.
use native.Mathlib.Omega.{arith}
use Rattle.grid.specs.Places.{Small, small}
use Rattle.grid.proofs.voxel_blocks.sample_length.Goals as goal
use Rattle.grid.proofs.voxel_blocks.sample_length.Goals.{Start}

fits : (c : Start) → Small c.args.n
fits c = small c.args.n c.requires

pub overflow_mul-square : goal.overflow_mul-square
overflow_mul-square c = omega (arith, fits c)

pub overflow_mul-result : goal.overflow_mul-result
overflow_mul-result c = omega (arith, fits c)

pub overflow_mul-result-2 : goal.overflow_mul-result-2
overflow_mul-result-2 c = omega (arith, fits c)

pub overflow_add-result : goal.overflow_add-result
overflow_add-result c = omega (arith, fits c)
