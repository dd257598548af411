-- `sirveshan_extract_layered` meets its contract: what extraction with a summary leaves is as the model says, and its answer is taken apart.
use mathlib.Core.Path.{ap₂, ◌∙◌}
use Rattle.sirveshan.specs.Calls.{as_extracted}
use Rattle.sirveshan.proofs.sirveshan_extract_layered.Goals as goal

-- from the end back to the call, past the places where its lists are given back
pub returns : goal.returns
returns c =
    λ i. record {
      answer = (c.from.ensures ∙ ap₂ as_extracted c.extract_layered.ensures.answer c.extract_layered.ensures.reads) i;
      store = c.extract_layered.ensures.store i;
      vertices = c.extract_layered.ensures.vertices i;
      triangles = c.extract_layered.ensures.triangles i;
      edges = c.extract_layered.ensures.edges i;
    }
