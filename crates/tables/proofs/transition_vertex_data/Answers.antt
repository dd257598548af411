-- The array is the list of the specs, entry by entry. Assumes nothing.
use mathlib.Core.Path.{refl}
use Rattle.tables.specs.Arrays.{transition_vertex_data}
use Rattle.tables.specs.TransitionRows.{vertex_rows}
use Rattle.tables.proofs.transition_vertex_data.Goals as goal

pub returns : goal.returns
unfolding transition_vertex_data vertex_rows
returns c = refl
