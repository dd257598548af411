-- The array is the list of the specs, entry by entry. Assumes nothing.
use mathlib.Core.Path.{refl}
use Rattle.tables.specs.Arrays.{regular_vertex_data}
use Rattle.tables.specs.RegularRows.{vertex_rows}
use Rattle.tables.proofs.regular_vertex_data.Goals as goal

pub returns : goal.returns
unfolding regular_vertex_data vertex_rows
returns c = refl
