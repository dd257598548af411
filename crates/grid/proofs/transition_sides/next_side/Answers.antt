-- `grid::transition_sides::next_side` meets its contract.
use Rattle.grid.specs.SideLaws.{next_side, next_side_lem}
use Rattle.grid.proofs.transition_sides.next_side.Goals as goal

pub returns : goal.returns
unfolding next_side
returns c =
    rw c.lowest_bit.ensures.0 (next_side_lem c.args.mask c.args.from c.requires.0 c.requires.1)
