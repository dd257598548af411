-- `sheet_cells::count_sheet_cell` meets its contract: away from the low faces by the case alone, else code by code.
use mathlib.Core.Bool.{true}
use mathlib.Core.Path.{◌≡◌, sym, ◌∙◌}
use native.Mathlib.Omega.{arith}
use Rattle.cells.specs.Rows.{Followed}
use Rattle.cells.specs.SheetCells.{cell_at, away_from_low}
use Rattle.cells.proofs.ByCase.{adds_as, rows_coded, rows_followed, rows_are}
use Rattle.cells.proofs.Inside.{away_small, away_adds}
use Rattle.cells.proofs.sheet_cells.count_sheet_cell.Goals as goal
use Rattle.cells.proofs.sheet_cells.count_sheet_cell.Goals.{After-sheet_rows-rows, Then-is_away_from_low}

-- the row of the case can be followed
row-followed : (r : After-sheet_rows-rows) → Followed r.sheet_rows-rows.result.row.now
row-followed r =
    let a = r.args in
    rows_followed a.sheet.now.index a.case a.u a.v _ r.sheet_rows-rows.ensures r.requires.case_bound

away : (c : Then-is_away_from_low) → away_from_low (cell_at c.args.sheet.now.index c.args.u c.args.v) ≡ true
away c = rw c.sheet_rows-rows.ensures.at_is at (sym c.is_away_from_low.ensures ∙ c.if-is_away_from_low.true)

pub count_made_inside-requires : goal.count_made_inside-requires
count_made_inside-requires c =
    let a = c.args in
    away_small a.sheet.now.index a.u a.v a.case c.requires.case_bound (away (goal.at.count_made_inside-requires c).Then-is_away_from_low)

pub triangle_count-requires : goal.triangle_count-requires
triangle_count-requires c = omega (arith, (row-followed (goal.at.triangle_count-requires c).After-sheet_rows-rows).there)

pub returns-then-is_away_from_low : goal.returns-then-is_away_from_low
returns-then-is_away_from_low c =
    let a = c.args in
    let place = goal.at.returns-then-is_away_from_low c in
    let few = (row-followed place.After-sheet_rows-rows).few_triangles in
    record {
      few = record { vertices = omega (arith, c.count_made_inside.ensures.1); triangles = omega (arith, c.triangle_count.ensures) };
      adds = λ s is.
          away_adds a.sheet.now.index a.u a.v a.case (away place.Then-is_away_from_low) c.requires.case_bound s is _ _
          c.count_made_inside.ensures.0 (rw (← c.sheet_rows-rows.ensures.row_is) c.triangle_count.ensures);
    }

pub count_cell-requires : goal.count_cell-requires
count_cell-requires c =
    let a = c.args in
    (rows_coded a.sheet.now.index a.case a.u a.v _ c.sheet_rows-rows.ensures c.requires.case_bound, row-followed (goal.at.count_cell-requires c).After-sheet_rows-rows)

pub returns : goal.returns
returns c =
    let a = c.args in
    record {
      few = c.count_cell.ensures.few;
      adds = λ s is.
          adds_as (rows_are a.sheet.now.index a.case a.u a.v _ c.sheet_rows-rows.ensures s is)
          (c.count_cell.ensures.adds s c.sheet_rows-rows.result.turned);
    }
