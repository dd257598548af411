-- `sirveshan_sheet_line` meets its contract: the line is taken apart.
use mathlib.Core.Path.{ap, ◌∙◌}
use Rattle.sirveshan.specs.Calls.{as_line_told}
use Rattle.sirveshan.proofs.sirveshan_sheet_line.Goals as goal

pub returns : goal.returns
returns c = c.from.ensures ∙ ap as_line_told c.sheet_line.ensures
