-- The array is the list of the specs, entry by entry. Assumes nothing.
use mathlib.Core.Path.{refl}
use Rattle.tables.specs.Arrays.{transition_cell_class}
use Rattle.tables.specs.TransitionRows.{classes}
use Rattle.tables.proofs.transition_cell_class.Goals as goal

pub returns : goal.returns
unfolding transition_cell_class classes
returns c = refl
