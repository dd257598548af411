-- `count_sheet` meets its contract: what each row adds is added up.
use native.Mathlib.Nat.{mul-le-mul_left}
use native.Mathlib.Omega.{arith}
use Prim.Native.Nat.{◌+◌, ◌*◌, ◌≤◌}
use Rattle.model.specs.Limits.{most_subdivisions}
use Rattle.cases.specs.RowPlaces.{rows_fit}
use Rattle.cells.specs.SheetCells.{sheet_cell}
use Rattle.walk.specs.Order.{row_to}
use Rattle.counting.proofs.Growth.{few_more, few_of, grows_more, sheet_grows}
use Rattle.counting.proofs.count_sheet.Goals as goal
use Rattle.counting.proofs.count_sheet.Goals.{At-loop-u}

-- the cells of all rows, and of those so far
all_rows : (c : At-loop-u) → let n = c.args.n in n * (n + 1) ≤ most_subdivisions * (most_subdivisions + 1)
all_rows c = rows_fit c.args.n c.requires.sheeted.few

so_far : (c : At-loop-u) → let n = c.args.n in n * c.loop-u.u ≤ n * n
so_far c = mul-le-mul_left c.args.n c.loop-u.invariant.0

pub loop-u-preserved : goal.loop-u-preserved
loop-u-preserved c =
    let l = c.loop-u in (
      omega (arith, c.loop-u-test.true),
      rw c.add-counts.ensures
          (few_of _ (omega arith) (few_more l.invariant.1.0 c.count_row.ensures.few), λ s held. grows_more (λ u. row_to (sheet_cell s c.args.sheet.now.index u) c.args.n) l.u (l.invariant.1.1 s held) (c.count_row.ensures.grows s held)),
    )

pub returns : goal.returns
returns c =
    let l = c.loop-u in
    let a = c.args in record { few = few_of _ (omega (arith, all_rows (goal.at.returns c).At-loop-u, so_far (goal.at.returns c).At-loop-u)) l.invariant.1.0; grows = λ s e is held. sheet_grows s a.n l.u e (omega arith) a.sheet.now.index is (l.invariant.1.1 s held) }
