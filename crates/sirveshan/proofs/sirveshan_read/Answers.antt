-- `sirveshan_read` meets its contract: what the reader leaves is as the model says, and its answer is taken apart.
use mathlib.Core.Path.{ap, ◌∙◌}
use Rattle.model.specs.Record.{ReadOutcome}
use Rattle.sirveshan.specs.Calls.{as_header_read}
use Rattle.sirveshan.proofs.sirveshan_read.Goals as goal

pub returns : goal.returns
returns c =
    let left = c.read_record.ensures in
    λ i. record {
      answer = (c.from.ensures ∙ ap (λ (o : ReadOutcome). as_header_read o.answer) left) i;
      samples = (left i).samples;
    }
