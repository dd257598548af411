-- `layers::extents::layer_count` meets its contract: few samples, so nothing wraps.
use native.Mathlib.Omega.{arith}
use Rattle.grid.specs.Places.{Small, small}
use Rattle.layers.proofs.extents.layer_count.Goals as goal
use Rattle.layers.proofs.extents.layer_count.Goals.{Start}

fits : (c : Start) → Small c.args.n
fits c = small c.args.n (omega arith)

pub overflow_mul-result : goal.overflow_mul-result
overflow_mul-result c = omega (arith, fits c)

pub overflow_mul-result-2 : goal.overflow_mul-result-2
overflow_mul-result-2 c = omega (arith, fits c)
