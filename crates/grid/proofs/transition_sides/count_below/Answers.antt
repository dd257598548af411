-- `grid::transition_sides::count_below` meets its contract.
use lib.Pow.{pow_pos}
use Rattle.grid.specs.SideLaws.{bit_of}
use Rattle.grid.proofs.transition_sides.count_below.Goals as goal

pub nonzero_rem-mask : goal.nonzero_rem-mask
nonzero_rem-mask c = rw (bit_of c.args.side c.requires) (pow_pos c.args.side)

pub returns : goal.returns
returns c = rw (bit_of c.args.side c.requires) at c.count.ensures
