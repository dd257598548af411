-- `put_any` meets its contract: a vertex is made and stored, made and not stored, or taken. Assumes nothing.
use Prim.Native.Nat.{◌<◌}
use mathlib.Core.Path.{sym, ◌∙◌}
use native.Mathlib.Omega.{arith}
use Rattle.points.specs.Grids.{star_of}
use Rattle.grid.specs.StorePlaces.{small_store}
use Rattle.codes.specs.Kinds.{slots}
use Rattle.vertices.specs.Uses.{index_within, one_made, code_stored, code_loose, code_taken, back_placed, back_within}
use Rattle.vertices.proofs.put_any.Goals as goal
use Rattle.vertices.proofs.put_any.Goals.{After-makes-made}

-- the reuse index is one of the cell's
within : (m : After-makes-made) → m.reuse_index-r.result < slots m.args.at
within m =
    index_within m.args.at m.args.code _ m.requires.usable m.reuse_index-r.ensures.0

pub put_vertex-requires : goal.put_vertex-requires
put_vertex-requires c =
    let a = c.args in
    omega (arith, c.requires.room, one_made (star_of c.args.grid.now) a.at a.code _ c.makes-made.ensures c.if-made.true)

pub overflow_cast-index : goal.overflow_cast-index
overflow_cast-index c = omega (arith, c.requires.room)

pub overflow_add-after : goal.overflow_add-after
overflow_add-after c = omega (arith, c.requires.room)

pub place-own-requires : goal.place-own-requires
place-own-requires c =
    (c.requires.ready.centred.parts.few, (c.requires.ready.placed, within (goal.at.place-own-requires c).After-makes-made))

pub offset_bounds-store-own : goal.offset_bounds-store-own
offset_bounds-store-own c =
    omega (arith, c.place-own.ensures.1, small_store c.args.grid.now.lent.header.block.subdivisions c.requires.ready.centred.parts.few)

pub bounds-store-own : goal.bounds-store-own
bounds-store-own c = omega (arith, c.place-own.ensures.1, c.requires.store_len)

pub returns-then-new : goal.returns-then-new
returns-then-new c =
    let a = c.args in
    code_stored (star_of c.args.grid.now) a.at a.code a.next _ a.vertices.now a.store.now _ c.makes-made.ensures
    c.reuse_index-r.ensures.0 _ _ _ c.vertex.ensures c.put_vertex.ensures
    c.new_vertex-new.ensures c.if-made.true _ c.place-own.ensures.0 c.if-new.true

pub returns-then-made : goal.returns-then-made
returns-then-made c =
    let a = c.args in
    code_loose (star_of c.args.grid.now) a.at a.code a.next _ a.vertices.now a.store.now _ c.makes-made.ensures
    c.reuse_index-r.ensures.0 _ _ _ c.vertex.ensures c.put_vertex.ensures
    c.new_vertex-new.ensures c.if-made.true c.if-new.false

pub back-requires : goal.back-requires
back-requires c = sym c.makes-made.ensures ∙ c.if-made.false

pub place-shared-requires : goal.place-shared-requires
place-shared-requires c =
    let a = c.args in (
      c.requires.ready.centred.parts.few,
      (
        back_placed a.code a.grid.now.lent.header.block.subdivisions a.at _ c.back.ensures c.requires.ready.placed,
        back_within a.code _ a.at _ c.back.ensures (within (goal.at.place-shared-requires c).After-makes-made),
      ),
    )

pub returns : goal.returns
returns c =
    let a = c.args in
    code_taken (star_of c.args.grid.now) a.at a.code a.next _ a.vertices.now a.store.now _ c.makes-made.ensures
    c.reuse_index-r.ensures.0 _ _ c.back.ensures c.place-shared.ensures.0
    c.if-made.false
