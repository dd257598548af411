-- `judge_samples` meets its contract: where all samples can be used none is refused, and otherwise the first bad one is looked for.
use mathlib.Core.Path.{sym, ◌∙◌}
use Rattle.model.specs.declared.Refusal.TheVariants.{BadSample}
use Rattle.judge.specs.Counted.{all_pass}
use Rattle.record.specs.Together.{usable_at}
use Rattle.record.proofs.judging.judge_samples.Goals as goal

pub returns-then-all_usable : goal.returns-then-all_usable
returns-then-all_usable c =
    let start = c.args in
    sym (all_pass (usable_at start.bytes.now) BadSample start.count (sym c.all_usable.ensures ∙ c.if-all_usable.true))

pub returns : goal.returns
returns c = c.first_bad.ensures
