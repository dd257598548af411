-- `sirveshan_extract` meets its contract: what extraction leaves is as the model says, and its answer is taken apart.
use mathlib.Core.Path.{ap₂, ◌∙◌}
use Rattle.sirveshan.specs.Calls.{as_extracted}
use Rattle.sirveshan.proofs.sirveshan_extract.Goals as goal

-- from the end back to the call, past the places where its lists are given back
pub returns : goal.returns
returns c =
    λ i. record {
      answer = (c.from.ensures ∙ ap₂ as_extracted c.extract.ensures.answer c.extract.ensures.reads) i;
      store = c.extract.ensures.store i;
      vertices = c.extract.ensures.vertices i;
      triangles = c.extract.ensures.triangles i;
    }
