-- `sirveshan_read_stl` meets its contract: what the reader leaves is as its definition says, and its answer is taken apart.
use mathlib.Core.Path.{ap, ◌∙◌}
use Rattle.stl.specs.Definition.{ReadOutcome}
use Rattle.sirveshan.specs.Calls.{as_triangles_read}
use Rattle.sirveshan.proofs.sirveshan_read_stl.Goals as goal

pub returns : goal.returns
returns c =
    let left = c.read_stl.ensures in
    λ i. record {
      answer = (c.from.ensures ∙ ap (λ (o : ReadOutcome). as_triangles_read o.answer) left) i;
      positions = (left i).positions;
    }
