-- `judge::samples::judge_list` meets its contract: the list passes if all can be used, and else the first bad one is looked for.
use mathlib.Core.Path.{sym, ◌∙◌}
use Rattle.judge.specs.Counted.{from_zero, list_usable}
use Rattle.judge.proofs.samples.judge_list.Goals as goal

pub returns-then-all_usable : goal.returns-then-all_usable
returns-then-all_usable c =
    let samples = c.args.samples.now in
    list_usable samples (sym c.all_usable.ensures ∙ c.if-all_usable.true)

pub returns : goal.returns
returns c = c.first_bad.ensures ∙ from_zero _
