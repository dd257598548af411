-- `cell::write_cell` meets its contract: the vertices and then the triangles make the cell. The winding plays no part in the
-- vertices. Assumes nothing.
use mathlib.Core.Path.{refl}
use native.Mathlib.Omega.{arith}
use borrow.Author.Rules.{rules}
use Rattle.model.specs.Mesh.{fill_to, triangle_of}
use Rattle.points.specs.Grids.{star_of}
use Rattle.cells.specs.Fills.{cell_put}
use Rattle.codes.specs.Rows.{rows_cell}
use Rattle.cells.specs.Rows.{row_triangle}
use Rattle.cells.proofs.cell.write_cell.Goals as goal

pub fill_cell-filled-requires : goal.fill_cell-filled-requires
unfolding fill_to
fill_cell-filled-requires c =
    let p = c.requires in
    record { ready = p.ready; row_coded = (omega (arith, p.coded.1), (p.coded.1.few_vertices, p.coded.0)); store_len = p.store_len; room = p.room }

pub put_edges-requires : goal.put_edges-requires
put_edges-requires c =
    let p = c.requires in
    record { n_le_most_subdivisions = (p.ready.centred.parts.few, (p.ready.placed, omega (arith, p.room.short))); row_coded = (omega (arith, p.coded.1), (p.coded.1.few_vertices, p.coded.0)) }

pub put_triangles-triangles-requires : goal.put_triangles-triangles-requires
put_triangles-triangles-requires c =
    let p = c.requires in
    record { followed = p.coded.1; room = p.room_2.0 }

pub overflow_add-result : goal.overflow_add-result
unfolding fill_to
overflow_add-result c =
    omega (arith, c.requires.room.short, c.requires.room_2.1, c.fill_cell-filled.ensures.reads_are)

pub returns : goal.returns
unfolding fill_to triangle_of row_triangle
returns c =
    let a = c.args in
    let s = star_of a.grid.now in
    let cell = rows_cell s a.cell.now in record {
      cell_put = cell_put cell a.counts.vertices a.counts.triangles a.out.now.vertices.now a.out.now.triangles.now a.out.now.store.now _ _ _ _ _ _ _ _ _ c.requires.room_2.1
          c.fill_cell-filled.ensures c.put_triangles-triangles.ensures.value c.put_triangles-triangles.ensures.triangles_after;
      edges = c.put_edges.ensures s a.cell.now.turned a.out.now.store.now refl;
      same = search rules;
    }
