-- `grid::shared_vertex_indices::store_length` meets its contract: the square and the cube of a number of subdivisions are small.
use native.Mathlib.Omega.{arith}
use Rattle.grid.specs.StorePlaces.{SmallStore, small_store}
use Rattle.grid.proofs.shared_vertex_indices.store_length.Goals as goal
use Rattle.grid.proofs.shared_vertex_indices.store_length.Goals.{Start}

small : (c : Start) → SmallStore c.args.n
small c = small_store c.args.n c.requires

pub overflow_mul-result : goal.overflow_mul-result
overflow_mul-result c = omega (arith, small c)

pub overflow_mul-result-2 : goal.overflow_mul-result-2
overflow_mul-result-2 c = omega (arith, small c)

pub overflow_mul-result-3 : goal.overflow_mul-result-3
overflow_mul-result-3 c = omega (arith, small c)

pub overflow_mul-result-4 : goal.overflow_mul-result-4
overflow_mul-result-4 c = omega (arith, small c)

pub overflow_mul-result-5 : goal.overflow_mul-result-5
overflow_mul-result-5 c = omega (arith, small c)

pub overflow_add-result : goal.overflow_add-result
overflow_add-result c = omega (arith, small c)
