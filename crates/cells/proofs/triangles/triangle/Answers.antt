-- `triangles::triangle` meets its contract: its corners go out in order, or turned round. Assumes nothing.
use mathlib.Core.Path.{sym}
use Rattle.cells.proofs.Windings.{in_order, turned_round}
use Rattle.cells.proofs.triangles.triangle.Goals as goal

pub returns-then-turned : goal.returns-then-turned
returns-then-turned c =
    let a = c.args in
    rw c.if-turned.true
    (sym (turned_round a.row.now a.vertices.now.index a.t _ _ _ c.corner_index-a.ensures
    c.corner_index-b.ensures c.corner_index-c.ensures))

pub returns : goal.returns
returns c =
    let a = c.args in
    rw c.if-turned.false
    (sym (in_order a.row.now a.vertices.now.index a.t _ _ _ c.corner_index-a.ensures
    c.corner_index-b.ensures c.corner_index-c.ensures))
