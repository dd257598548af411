-- `grid::nesting::nest` meets its contract: each value on the way is at most the place, which fits.
use native.Mathlib.Omega.{arith}
use Rattle.grid.specs.Nesting.{OnTheWay, on_the_way}
use Rattle.grid.proofs.nesting.nest.Goals as goal
use Rattle.grid.proofs.nesting.nest.Goals.{Start}

way : (c : Start) → OnTheWay c.args.m c.args.a c.args.b c.args.c
way c = on_the_way c.args.m c.args.a c.args.b c.args.c c.requires.some

pub overflow_mul-result : goal.overflow_mul-result
overflow_mul-result c = omega (arith, way c)

pub overflow_add-result : goal.overflow_add-result
overflow_add-result c = omega (arith, way c)

pub overflow_mul-result-2 : goal.overflow_mul-result-2
overflow_mul-result-2 c = omega (arith, way c)
