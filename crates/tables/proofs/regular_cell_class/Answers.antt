-- The array is the list of the specs, entry by entry. Assumes nothing.
use mathlib.Core.Path.{refl}
use Rattle.tables.specs.Arrays.{regular_cell_class}
use Rattle.tables.specs.RegularRows.{classes}
use Rattle.tables.proofs.regular_cell_class.Goals as goal

pub returns : goal.returns
unfolding regular_cell_class classes
returns c = refl
