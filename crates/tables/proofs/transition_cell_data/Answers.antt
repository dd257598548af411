-- The array is the list of the specs, entry by entry. Assumes nothing.
use mathlib.Core.Path.{refl}
use Rattle.tables.specs.Arrays.{transition_cell_data}
use Rattle.tables.specs.TransitionRows.{cell_rows}
use Rattle.tables.proofs.transition_cell_data.Goals as goal

pub returns : goal.returns
unfolding transition_cell_data cell_rows
returns c = refl
