-- `spot_count` meets its contract: a face has few points.
use native.Mathlib.Omega.{arith}
use Rattle.grid.specs.Places.{small}
use Rattle.repair.proofs.faces.spot_count.Goals as goal

pub overflow_mul-result : goal.overflow_mul-result
overflow_mul-result c = omega (arith, (small c.args.n (omega arith)).square)

pub overflow_mul-result-2 : goal.overflow_mul-result-2
overflow_mul-result-2 c = omega (arith, (small c.args.n (omega arith)).square)
