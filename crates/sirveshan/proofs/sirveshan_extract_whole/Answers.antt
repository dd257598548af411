-- `sirveshan_extract_whole` meets its contract: what extraction leaves is as the model says, and its answer is taken apart.
use mathlib.Core.Path.{ap₂, ◌∙◌}
use Rattle.sirveshan.specs.Calls.{as_extracted}
use Rattle.sirveshan.proofs.sirveshan_extract_whole.Goals as goal

pub returns : goal.returns
returns c =
    λ i. record {
      answer = (c.from.ensures ∙ ap₂ as_extracted c.extract_whole.ensures.answer c.extract_whole.ensures.reads) i;
      store = c.extract_whole.ensures.store i;
      vertices = c.extract_whole.ensures.vertices i;
      triangles = c.extract_whole.ensures.triangles i;
      edges = c.extract_whole.ensures.edges i;
    }
