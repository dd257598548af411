-- `agree` meets its contract: bits are judged by the samples that they stand for.
use mathlib.Core.Path.{ap, ◌∙◌}
use mathlib.Core.Bool.{beq}
use Rattle.model.specs.Formulas.{inside}
use Rattle.repair.proofs.faces.agree.Goals as goal

pub returns : goal.returns
returns c = let threshold = c.args.threshold in
    let here = c.inside.ensures ∙ ap (inside threshold) c.float_of.ensures in
    let there = c.inside-2.ensures ∙ ap (inside threshold) c.float_of-2.ensures in
    λ i. beq (here i) (there i)
