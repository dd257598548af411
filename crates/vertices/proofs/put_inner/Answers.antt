-- `put_inner` meets its contract: a new code makes a vertex and stores it, and any other takes one. Assumes nothing.
use Prim.Native.Nat.{◌<◌}
use mathlib.Core.Path.{sym, ap, ◌∙◌}
use native.Mathlib.Omega.{arith}
use Rattle.points.specs.Grids.{star_with}
use Rattle.model.specs.Mesh.{regular_use}
use Rattle.grid.specs.StorePlaces.{small_store}
use Rattle.codes.specs.declared.CellIndex.TheVariants.{Regular}
use Rattle.codes.specs.Kinds.{slots}
use Rattle.vertices.specs.Uses.{index_within, code_stored, code_taken, back_placed}
use Rattle.vertices.proofs.Inners.{inner_placed, inner_stays, inner_makes}
use Rattle.vertices.proofs.put_inner.Goals as goal
use Rattle.vertices.proofs.put_inner.Goals.{After-new_vertex}

-- the reuse index is one of the cell's
within : (m : After-new_vertex) → m.reuse_index-r.result < slots (Regular m.args.at)
within m =
    index_within (Regular m.args.at) m.args.code _ m.requires.inner.1 m.reuse_index-r.ensures.0

pub put_vertex-requires : goal.put_vertex-requires
put_vertex-requires c =
    let fresh = sym c.new_vertex.ensures ∙ c.if-new_vertex.true in
    let room = rw fresh at c.requires.room.room in
    omega (arith, room)

pub regular_place-own-requires : goal.regular_place-own-requires
regular_place-own-requires c =
    let placed = inner_placed c.requires.inner.0 in
    record {
      few = c.args.grid.now.centred.parts.few;
      x_in = placed.x_in;
      y_in = placed.y_in;
      z_in = placed.z_in;
      reuse = within (goal.at.regular_place-own-requires c).After-new_vertex;
    }

pub offset_bounds-store-own : goal.offset_bounds-store-own
offset_bounds-store-own c =
    omega (arith, c.regular_place-own.ensures.1, small_store c.args.grid.now.lent.header.block.subdivisions c.args.grid.now.centred.parts.few)

pub bounds-store-own : goal.bounds-store-own
bounds-store-own c = omega (arith, c.regular_place-own.ensures.1, c.requires.store_len)

pub overflow_add-result : goal.overflow_add-result
overflow_add-result c = omega (arith, c.requires.room.short)

pub returns-then-new_vertex : goal.returns-then-new_vertex
unfolding regular_use
returns-then-new_vertex c =
    let a = c.args in
    let new = c.new_vertex.ensures in
    let taken = c.if-new_vertex.true in
    λ ns.
    code_stored (star_with a.grid.now ns) (Regular a.at) a.code a.next _ a.vertices.now a.store.now _
    (new ∙ inner_makes c.requires.inner.0 a.code) c.reuse_index-r.ensures.0 _ _ _ (c.inner_vertex.ensures ns)
    c.put_vertex.ensures new taken _ c.regular_place-own.ensures.0 taken

pub regular_back-from-requires : goal.regular_back-from-requires
regular_back-from-requires c =
    inner_stays c.requires.inner.0 c.args.code

pub regular_place-shared-requires : goal.regular_place-shared-requires
regular_place-shared-requires c =
    let a = c.args in
    let placed = back_placed a.code a.grid.now.lent.header.block.subdivisions (Regular a.at) (Regular c.regular_back-from.result) (ap Regular c.regular_back-from.ensures) (inner_placed c.requires.inner.0) in
    record {
      few = c.args.grid.now.centred.parts.few;
      x_in = placed.x_in;
      y_in = placed.y_in;
      z_in = placed.z_in;
      reuse = within (goal.at.regular_place-shared-requires c).After-new_vertex;
    }

pub returns : goal.returns
returns c =
    let a = c.args in
    λ ns.
    code_taken (star_with a.grid.now ns) (Regular a.at) a.code a.next _ a.vertices.now a.store.now _
    (c.new_vertex.ensures ∙ inner_makes c.requires.inner.0 a.code) c.reuse_index-r.ensures.0 _ (Regular c.regular_back-from.result) (ap Regular c.regular_back-from.ensures)
    c.regular_place-shared.ensures.0 c.if-new_vertex.false
