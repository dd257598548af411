-- `write_row` meets its contract: the mesh grows by each marked cell, and the others make nothing.
use Prim.Native.Nat.{◌<◌}
use mathlib.Core.Path.{◌∙◌}
use Rattle.std.proofs.Math.Numerals.{add-one}
use Rattle.points.specs.Grids.{subdivisions_of, star_of}
use Rattle.cells.specs.SheetCells.{sheet_cell}
use Rattle.walk.specs.Order.{row_to, row_before}
use Rattle.walk.specs.Rows.{marked_of, end_of, within_of, row_still}
use Rattle.writing.specs.Lengths.{fits_still}
use Rattle.writing.proofs.Holding.{so_far_none, so_far_then, cell_ready, Ready, room_vertices, room_triangles, holds_more, holds_skip, put_keeps, ready_at, row_done}
use Rattle.writing.proofs.write_row.Goals as goal
use Rattle.writing.proofs.write_row.Goals.{In-Some}

-- the cell of this turn is one of the row's
below : (c : In-Some) → c.in-Some.v < subdivisions_of c.args.grid.now
below c = within_of c.loop-v.invariant.0 c.in-Some.ensures.steps.0.1

-- and it can be written, since those before it that are passed over make nothing
ready : (c : In-Some) → let l = c.loop-v in
    let s = star_of c.args.grid.now in
    let sheet = c.args.sheet.now.index in
    let v = c.in-Some.v in
    Ready s (sheet_cell s sheet c.args.u v) (row_to (sheet_cell s sheet c.args.u) v (row_before s sheet c.args.u)) l.counts
    l.out.vertices.now l.out.triangles.now l.out.store.now l.out.edges.now
ready c =
    let s = star_of c.args.grid.now in
    let before = c.loop-v.invariant in
    let u_in = c.requires.u_lt_subdivisions.0 in
    let next = marked_of before.0 c.in-Some.ensures.steps.0.0 in
    ready_at s c.args.sheet.now.index c.args.u u_in c.in-Some.v (below c) c.requires.sheet_in (fits_still before.1.kept c.requires.fits)
    (holds_skip s c.args.sheet.now.index c.args.u u_in c.requires.sheeted.1 _ _ next before.1.holds)

pub loop-v-init : goal.loop-v-init
loop-v-init c =
    let start = c.cut_cells-v-items.ensures in
    rw (c.into_iter-v-iterator.ensures.into_iter_gives, start.from)
    ((start.n, (start.marks, start.start)), so_far_none c.requires.u_lt_subdivisions.1)

pub write_sheet_cell-counts-requires : goal.write_sheet_cell-counts-requires
write_sheet_cell-counts-requires c =
    let v = c.in-Some.v in
    let turn = (goal.at.write_sheet_cell-counts-requires c).In-Some in
    let v_in = below turn in
    let u_in = c.requires.u_lt_subdivisions.0 in
    let grid = c.args.grid.now in
    let r = ready turn in
    record {
      tables = c.requires.tables;
      ready = cell_ready (star_of grid) grid.fractions c.requires.shaped grid.centred c.args.sheet.now.index c.requires.sheet_in c.args.u v u_in v_in;
      case_value = c.number_at.ensures ∙ c.requires.sheeted.1.numbers.case_at c.args.u v u_in v_in;
      store_len = r.fits.store_fits;
      room = room_vertices r;
      room_2 = (room_triangles r, r.holds.read_so_far);
    }

pub loop-v-preserved : goal.loop-v-preserved
loop-v-preserved c =
    let before = c.loop-v.invariant in
    let steps = c.in-Some.ensures.steps in
    let put = c.write_sheet_cell-counts.ensures in (
      row_still before.0 steps.1.1,
      rw (steps.1.0, add-one)
          (so_far_then before.1 put.same (put_keeps _ _ _ put.cell_put put.edges)
          (holds_more (ready (goal.at.loop-v-preserved c).In-Some) _ _ _ _ _ put.cell_put put.edges)),
    )

pub returns : goal.returns
returns c =
    let s = star_of c.args.grid.now in
    let before = c.loop-v.invariant in
    let last = end_of before.0 c.in-None.ensures.steps.0 in
    let holds = holds_skip s c.args.sheet.now.index c.args.u c.requires.u_lt_subdivisions.0 c.requires.sheeted.1 _ _ last before.1.holds in
    record { holds = rw row_done at holds; kept = before.1.kept; same = before.1.same }
