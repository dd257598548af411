-- The array is the list of the specs, entry by entry. Assumes nothing.
use mathlib.Core.Path.{refl}
use Rattle.tables.specs.Arrays.{regular_cell_data}
use Rattle.tables.specs.RegularRows.{cell_rows}
use Rattle.tables.proofs.regular_cell_data.Goals as goal

pub returns : goal.returns
unfolding regular_cell_data cell_rows
returns c = refl
