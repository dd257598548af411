-- `triangles::put_triangles` meets its contract. The loop's invariant: the triangles passed are laid. Assumes nothing.
use mathlib.Core.Path.{sym}
use Rattle.model.specs.Extraction.{triangle_indices}
use Rattle.cells.specs.Fills.{triangles_more}
use Rattle.laws.specs.Laying.{lay_none}
use Rattle.cells.specs.Rows.{row_triangle}
use Rattle.cells.proofs.triangles.put_triangles.Goals as goal

pub loop-t-init : goal.loop-t-init
loop-t-init c = sym (lay_none 3 triangle_indices _ _)

pub loop-t-preserved : goal.loop-t-preserved
loop-t-preserved c =
    let l = c.loop-t in
    let cell = c.args.cell.now in
    triangles_more (row_triangle cell.row.now cell.turned c.args.vertices.now.index) c.args.base l.t _ c.args.triangles.now _ _
    c.triangle-made.ensures l.invariant c.put_triangle.ensures
