-- `sirveshan_cut` meets its contract: what cutting leaves is as its definition says, and its answer is taken apart.
use mathlib.Core.Path.{ap, ◌∙◌}
use Rattle.volume.specs.Definition.{CutOutcome}
use Rattle.sirveshan.specs.Calls.{as_samples_cut}
use Rattle.sirveshan.proofs.sirveshan_cut.Goals as goal

pub returns : goal.returns
returns c =
    let left = c.cut_block.ensures in
    λ i. record {
      answer = (c.from.ensures ∙ ap (λ (o : CutOutcome). as_samples_cut o.answer) left) i;
      samples = (left i).samples;
    }
