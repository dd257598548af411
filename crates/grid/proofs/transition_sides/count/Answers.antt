-- `grid::transition_sides::count` meets its contract: a byte has at most eight bits set.
use native.Mathlib.Omega.{arith}
use lib.Count.{ones-le}
use Rattle.grid.proofs.transition_sides.count.Goals as goal

pub overflow_cast-result : goal.overflow_cast-result
overflow_cast-result c = omega (arith, ones-le 8 c.args.mask c.ranges.mask.fits)
