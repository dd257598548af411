-- `grid::transition_sides::lowest_bit` meets its contract.
use mathlib.Core.Path.{refl}
use native.Mathlib.Omega.{arith}
use lib.Count.{trailing_le}
use Rattle.grid.proofs.transition_sides.lowest_bit.Goals as goal

pub overflow_cast-result : goal.overflow_cast-result
overflow_cast-result c = omega (arith, trailing_le 8 c.args.bits)

pub returns : goal.returns
returns c = (refl, trailing_le 8 c.args.bits)
