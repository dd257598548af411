-- `fill_cell` meets its contract. The loop's invariant: the buffers are as the definition's first k vertices leave them.
-- Assumes nothing.
use Prim.Native.Nat.{◌+◌, ◌<◌}
use mathlib.Core.Path.{◌≡◌, ap}
use native.Mathlib.Omega.{arith}
use Rattle.std.proofs.lemmas.List.{get_or-take}
use lib.ListN.{length, take, get_or, length-take}
use Rattle.tables.specs.Cases.{vertices_of}
use Rattle.points.specs.Grids.{star_of}
use Rattle.codes.specs.Kinds.{use_at}
use Rattle.codes.specs.Rows.{rows_cell}
use Rattle.model.specs.Mesh.{made_by}
use Rattle.vertices.specs.Puts.{Room}
use Rattle.vertices.specs.Fills.{fill_none, fill_ready, fill_more}
use Rattle.vertices.proofs.fill_cell.Goals as goal
use Rattle.vertices.proofs.fill_cell.Goals.{In-loop-k}

inside : (c : In-loop-k) → c.loop-k.k < vertices_of c.args.cell.now.row.now
inside c = omega (arith, c.vertex_count-count.ensures, rw length-take at c.loop-k-test.true)

-- its code is the row's
code_is : (c : In-loop-k) → let cell = c.args.cell.now in
    use_at (star_of c.args.grid.now) cell.at (get_or (take c.vertex_count-count.result cell.codes.now) c.loop-k.k 0)
    ≡ (rows_cell (star_of c.args.grid.now) cell).uses c.loop-k.k
code_is c =
    ap (use_at (star_of c.args.grid.now) c.args.cell.now.at)
    (get_or-take c.vertex_count-count.result c.args.cell.now.codes.now c.loop-k.k 0 (omega (arith, inside c, c.vertex_count-count.ensures)))

pub loop-k-init : goal.loop-k-init
loop-k-init c = fill_none (rows_cell (star_of c.args.grid.now) c.args.cell.now) c.args.base c.args.store.now c.args.vertices.now

-- the room that its vertex wants is there
ready : (c : In-loop-k) → let cell = c.args.cell.now in
    Room 6 (c.loop-k.next + length (made_by (use_at (star_of c.args.grid.now) cell.at (get_or (take c.vertex_count-count.result cell.codes.now) c.loop-k.k 0)))) c.loop-k.vertices
ready c =
    fill_ready (rows_cell (star_of c.args.grid.now) c.args.cell.now) c.args.base c.args.store.now c.loop-k.k _ (code_is c) c.args.vertices.now
    _ _ _ _ _ _ c.loop-k.invariant (vertices_of c.args.cell.now.row.now) (inside c) c.requires.room

pub put_code-put-requires-clause-room : goal.put_code-put-requires-clause-room
put_code-put-requires-clause-room c = ready (goal.at.put_code-put-requires-clause-room c).In-loop-k

pub loop-k-preserved : goal.loop-k-preserved
loop-k-preserved c =
    let turn = (goal.at.loop-k-preserved c).In-loop-k in
    fill_more (rows_cell (star_of c.args.grid.now) c.args.cell.now) c.args.base c.args.store.now c.loop-k.k _ (code_is turn) c.args.vertices.now
    _ _ _ _ _ _ c.loop-k.invariant _ _ _ _ _ (omega (arith, inside turn, c.requires.row_coded)) c.put_code-put.ensures
