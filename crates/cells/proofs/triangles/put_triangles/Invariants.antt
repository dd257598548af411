-- `triangles::put_triangles` meets its contract. The loop's invariant: the triangles passed are laid. Assumes nothing.
use mathlib.Core.Path.{◌≡◌}
use Rattle.laws.specs.Steps.{listed}
use Rattle.vertices.specs.Buffers.{lay_triangles}
use Rattle.cells.specs.Rows.{row_triangle}
use Rattle.cells.proofs.triangles.put_triangles.Given as goal

abbrev pub invariant-loop-t : goal.invariant-loop-t
invariant-loop-t l = l.triangles ≡ lay_triangles l.initial.triangles l.base (listed (row_triangle l.cell.row.now l.cell.turned l.vertices.index) l.t)
