-- `grid::transition_sides::is_named` meets its contract.
use mathlib.Core.Path.{refl}
use Rattle.model.specs.Sides.{named}
use Rattle.grid.proofs.transition_sides.is_named.Goals as goal

pub returns : goal.returns
unfolding named
returns c = refl
