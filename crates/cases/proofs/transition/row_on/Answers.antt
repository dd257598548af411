-- `transition::row_on` meets its contract. The loop's invariant: the places passed hold their cells' numbers and marks.
use native.Mathlib.Omega.{arith}
use mathlib.Core.Path.{ap, ◌∙◌}
use Rattle.cases.specs.Marks.{all_transition, mark_of}
use Rattle.cases.specs.Rows.{one_more}
use Rattle.cases.proofs.transition.row_on.Goals as goal

pub loop-v-preserved : goal.loop-v-preserved
loop-v-preserved c =
    let l = c.loop-v in
    let start = c.args.start in
    let number = c.nine-number.ensures in (
      one_more _ start l.v _ _ l.cases l.invariant.0 (omega arith) number,
      one_more _ start l.v _ _ l.marks l.invariant.1 (omega arith) (c.side_mark.ensures ∙ ap (mark_of all_transition) number),
    )
