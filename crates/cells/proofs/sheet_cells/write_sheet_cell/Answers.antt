-- `sheet_cells::write_sheet_cell` meets its contract: the rows of its case describe the cell.
use Prim.Native.Nat.{◌≤◌}
use mathlib.Core.Path.{◌≡◌}
use native.Mathlib.Omega.{arith}
use Rattle.points.specs.Grids.{star_of}
use Rattle.codes.specs.Rows.{rows_cell}
use Rattle.cells.specs.SheetCells.{all_of, sheet_cell}
use Rattle.cells.specs.SheetNumbers.{case_small}
use Rattle.cells.proofs.ByCase.{vertex_room, triangle_room, put_as, edges_as, rows_coded, rows_followed, rows_are}
use Rattle.cells.proofs.sheet_cells.write_sheet_cell.Goals as goal
use Rattle.cells.proofs.sheet_cells.write_sheet_cell.Goals.{After-sheet_rows, Start}

-- the case number is one of the table's
small : (b : Start) → b.args.case ≤ all_of b.args.sheet.now.index
small b =
    let a = b.args in
    omega (arith, b.requires.case_value, case_small (star_of a.grid.now) a.sheet.now.index a.u a.v)

-- the rows that are lent describe the cell
same : (r : After-sheet_rows) → let a = r.args in
    rows_cell (star_of a.grid.now) r.sheet_rows.result ≡ sheet_cell (star_of a.grid.now) a.sheet.now.index a.u a.v
same r =
    let a = r.args in
    rows_are a.sheet.now.index a.case a.u a.v _ r.sheet_rows.ensures (star_of a.grid.now) r.requires.case_value

pub sheet_rows-requires-clause-case_bound : goal.sheet_rows-requires-clause-case_bound
sheet_rows-requires-clause-case_bound c = small (goal.at.sheet_rows-requires-clause-case_bound c).Start

pub write_cell-requires : goal.write_cell-requires
write_cell-requires c =
    let place = goal.at.write_cell-requires c in
    let a = c.args in
    let out = a.out.now in
    let rows = c.sheet_rows.ensures in
    let is = same place.After-sheet_rows in
    record {
      ready = rw rows.at_is c.requires.ready;
      coded = (rows_coded a.sheet.now.index a.case a.u a.v _ rows (small place.Start), rows_followed a.sheet.now.index a.case a.u a.v _ rows (small place.Start));
      store_len = c.requires.store_len;
      room = vertex_room is a.counts.vertices out.vertices.now out.store.now c.requires.room;
      room_2 = (triangle_room is a.counts.triangles out.triangles.now c.requires.room_2.0, c.requires.room_2.1);
    }

pub returns : goal.returns
returns c =
    let a = c.args in
    let out = a.out.now in
    let is = same (goal.at.returns c).After-sheet_rows in
    record {
      cell_put = put_as is a.counts.vertices a.counts.triangles out.vertices.now out.triangles.now out.store.now _ _ _ _ _ _ c.write_cell.ensures.cell_put;
      edges = edges_as is a.counts.vertices out.edges.now out.store.now _ c.write_cell.ensures.edges;
      same = c.write_cell.ensures.same;
    }
