-- `sirveshan_write` meets its contract: what the writer leaves is as the model says, and its answer is taken apart.
use mathlib.Core.Path.{ap, ◌∙◌}
use Rattle.model.specs.Record.{WriteOutcome}
use Rattle.sirveshan.specs.Calls.{as_written}
use Rattle.sirveshan.proofs.sirveshan_write.Goals as goal

pub returns : goal.returns
returns c =
    let left = c.write_record.ensures in
    λ i. record {
      answer = (c.from.ensures ∙ ap (λ (o : WriteOutcome). as_written o.answer) left) i;
      bytes = (left i).bytes;
    }
