-- `count_row` meets its contract: what each marked cell adds is added up, and the others add nothing.
use native.Mathlib.Omega.{arith}
use mathlib.Core.Path.{◌∙◌}
use Rattle.walk.specs.Rows.{marked_of, end_of, within_of, row_still}
use Rattle.counting.proofs.Growth.{few_none, few_more, few_of, grows_none, grows_past, grows_end}
use Rattle.counting.proofs.count_row.Goals as goal

pub loop-v-init : goal.loop-v-init
loop-v-init c =
    let start = c.cut_cells-v-items.ensures in
    rw (c.into_iter-v-iterator.ensures.into_iter_gives, start.from) ((start.n, (start.marks, start.start)), (few_none, λ s held. grows_none))

pub count_sheet_cell-more-requires : goal.count_sheet_cell-more-requires
count_sheet_cell-more-requires c =
    let v_in = within_of c.loop-v.invariant.0 c.in-Some.ensures.steps.0.1 in
    record { tables = c.requires.tables; case_bound = rw c.number_at.ensures (c.requires.u_lt_n.1.number_at c.args.u c.in-Some.v c.requires.u_lt_n.0 v_in) }

pub loop-v-preserved : goal.loop-v-preserved
loop-v-preserved c =
    let l = c.loop-v in
    let steps = c.in-Some.ensures.steps in
    let next = marked_of l.invariant.0 steps.0.0 in
    let v_in = within_of l.invariant.0 steps.0.1 in (
      row_still l.invariant.0 steps.1.1,
      rw (c.add-counts.ensures, steps.1.0) (
        few_of _ (omega (arith, next.ordered)) (few_more l.invariant.1.0 c.count_sheet_cell-more.ensures.few),
        λ s held.
            let number = c.number_at.ensures ∙ held.numbers.case_at c.args.u c.in-Some.v c.requires.u_lt_n.0 v_in in
            grows_past s c.args.sheet.now.index held c.args.u c.requires.u_lt_n.0 _ c.in-Some.v _ _ next (l.invariant.1.1 s held) (c.count_sheet_cell-more.ensures.adds s number),
      ),
    )

pub returns : goal.returns
returns c =
    let l = c.loop-v in
    let last = end_of l.invariant.0 c.in-None.ensures.steps.0 in
    record {
      few = few_of _ last.ordered l.invariant.1.0;
      grows = λ s held. grows_end s c.args.sheet.now.index held c.args.u c.requires.u_lt_n.0 _ _ last (l.invariant.1.1 s held);
    }
