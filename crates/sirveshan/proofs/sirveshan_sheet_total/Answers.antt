-- `sirveshan_sheet_total` meets its contract: the total is taken apart.
use mathlib.Core.Path.{ap, ◌∙◌}
use Rattle.sirveshan.specs.Calls.{as_total_told}
use Rattle.sirveshan.proofs.sirveshan_sheet_total.Goals as goal

pub returns : goal.returns
returns c = c.from.ensures ∙ ap as_total_told c.sheet_total.ensures
