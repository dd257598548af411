-- `put_header` meets its contract: the five measures stand right after the start.
use Prim.Native.Nat.{ℕ}
use mathlib.Core.Path.{ap, ◌∙◌}
use mathlib.Core.List.{List}
use lib.Seq.{sets}
use Rattle.laws.specs.Steps.{each}
use Rattle.model.specs.Words.{word_bytes, float_bytes}
use Rattle.model.specs.Record.{threshold_at}
use Rattle.laws.specs.Lists.{sets_append}
use Rattle.record.specs.Bytes.{start_of, measures_of}
use Rattle.record.proofs.writer.put_header.Goals as goal

pub returns : goal.returns
unfolding word_bytes
returns c =
    let args = c.args in
    let measures = each float_bytes (measures_of args.header) in
    c.put_floats.ensures
    ∙ ap (λ (l : List ℕ). sets l threshold_at measures) c.put_start.ensures
    ∙ sets_append args.bytes.now 0 (start_of args.header args.count) measures
