-- `sirveshan_make_summary` meets its contract: what making leaves is as its definition says, and its answer is taken apart.
use mathlib.Core.Path.{ap, ◌∙◌}
use Rattle.layers.specs.Definition.{MakeOutcome}
use Rattle.sirveshan.specs.Calls.{as_judged}
use Rattle.sirveshan.proofs.sirveshan_make_summary.Goals as goal

pub returns : goal.returns
returns c =
    let left = c.make_summary.ensures in
    λ i. record { answer = (c.as_judged.ensures ∙ ap (λ (o : MakeOutcome). as_judged o.answer) left) i; summary = (left i).summary }
