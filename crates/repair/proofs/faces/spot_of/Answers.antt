-- `spot_of` meets its contract: a face has few points.
use native.Mathlib.Omega.{arith}
use Rattle.grid.specs.Places.{small}
use Rattle.repair.proofs.faces.spot_of.Goals as goal

pub overflow_mul-in_face : goal.overflow_mul-in_face
overflow_mul-in_face c = omega (arith, (small c.args.n (omega arith)).square)

pub overflow_mul-result : goal.overflow_mul-result
overflow_mul-result c = omega (arith, (small c.args.n (omega arith)).square)
