-- `sirveshan_write_stl` meets its contract: what the writer leaves is as its definition says, and its answer is taken apart.
use mathlib.Core.Path.{ap, ◌∙◌}
use Rattle.stl.specs.Definition.{WriteOutcome}
use Rattle.sirveshan.specs.Calls.{as_stl_written}
use Rattle.sirveshan.proofs.sirveshan_write_stl.Goals as goal

pub returns : goal.returns
returns c =
    let left = c.write_stl.ensures in
    λ i. record {
      answer = (c.from.ensures ∙ ap (λ (o : WriteOutcome). as_stl_written o.answer) left) i;
      bytes = (left i).bytes;
    }
