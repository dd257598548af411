-- `grid::readings::value_in_block` meets its contract: the reading that it makes is taken apart.
use mathlib.Core.Path.{ap, ◌∙◌}
use Rattle.model.specs.Samples.{value_of}
use Rattle.grid.proofs.readings.value_in_block.Goals as goal

pub returns : goal.returns
returns c = c.value_of.ensures ∙ ap value_of c.reading_at.ensures
