-- `sirveshan_weld` meets its contract: what the pass leaves is as its definition says, and its answer is taken apart.
use mathlib.Core.Path.{ap, ◌∙◌}
use Rattle.weld.specs.Definition.{Outcome}
use Rattle.sirveshan.specs.Calls.{as_welded_counts}
use Rattle.sirveshan.proofs.sirveshan_weld.Goals as goal

pub returns : goal.returns
returns c =
    let left = c.weld.ensures in
    λ i. record {
      answer = (c.from.ensures ∙ ap (λ (o : Outcome). as_welded_counts o.answer) left) i;
      vertices = (left i).vertices;
      triangles = (left i).triangles;
      edges = (left i).edges;
    }
