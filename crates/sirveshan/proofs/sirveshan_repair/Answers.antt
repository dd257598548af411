-- `sirveshan_repair` meets its contract: what the pass leaves is as its definition says, and its answer is taken apart.
use mathlib.Core.Path.{ap, ◌∙◌}
use Rattle.repair.specs.Definition.{RepairOutcome}
use Rattle.sirveshan.specs.Calls.{as_mended}
use Rattle.sirveshan.proofs.sirveshan_repair.Goals as goal

pub returns : goal.returns
returns c =
    let left = c.repair.ensures in
    λ i. record {
      answer = (c.from.ensures ∙ ap (λ (o : RepairOutcome). as_mended o.answer) left) i;
      centre = (left i).left.centre;
      neighbours = (left i).left.neighbours;
      changes = (left i).changes;
    }
