-- `sirveshan_set_sample` meets its contract: the coordinates pass as they are, what setting leaves is as its
-- definition says, and its answer is taken apart.
use mathlib.Core.Path.{ap, ◌∙◌}
use mir.Syntax.{w32}
use mir.Facts.{to_z-of_z}
use Rattle.layers.specs.Definition.{SetOutcome}
use Rattle.sirveshan.specs.Calls.{as_judged}
use Rattle.sirveshan.proofs.sirveshan_set_sample.Goals as goal

pub returns : goal.returns
returns c =
    let fits = c.ranges in
    let left = rw (to_z-of_z {w = w32} fits.x, to_z-of_z {w = w32} fits.y, to_z-of_z {w = w32} fits.z) at c.set_sample.ensures in
    λ i. record {
      answer = (c.as_judged.ensures ∙ ap (λ (o : SetOutcome). as_judged o.answer) left) i;
      samples = (left i).samples;
      summary = (left i).summary;
    }
