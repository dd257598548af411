-- `grid::voxel_blocks::place` meets its contract: where one coordinate is outside, the other two are inner.
use Prim.Native.Nat.{◌+◌, ◌≤◌}
use native.Mathlib.Omega.{arith}
use Rattle.model.specs.Samples.{outside}
use Rattle.grid.specs.Places.{Inner, not_outside_inner, sampled_sum, place_across_x, place_across_y, place_across_z, place_inner}
use Rattle.grid.proofs.voxel_blocks.place.Goals as goal
use Rattle.grid.proofs.voxel_blocks.place.Goals.{Else-outside_by-ne0-3, Start}

sum : (c : Start) → outside c.args.n c.args.x + outside c.args.n c.args.y + outside c.args.n c.args.z ≤ 1
sum c = sampled_sum c.args.n c.args.x c.args.y c.args.z c.requires.1

-- where none is outside
inner : (c : Else-outside_by-ne0-3) → let a = c.args in (Inner a.n a.x) × ((Inner a.n a.y) × (Inner a.n a.z))
inner c =
    let a = c.args in
    (not_outside_inner a.n a.x (omega arith), (not_outside_inner a.n a.y (omega arith), not_outside_inner a.n a.z (omega arith)))

pub across-requires : goal.across-requires
across-requires c =
    let total = sum (goal.at.across-requires c).Start in
    let y = not_outside_inner c.args.n c.args.y (omega arith) in
    let z = not_outside_inner c.args.n c.args.z (omega arith) in
    (omega arith, (omega arith, (y, z)))

pub returns-then-outside_by-ne0 : goal.returns-then-outside_by-ne0
returns-then-outside_by-ne0 c =
    let total = sum (goal.at.returns-then-outside_by-ne0 c).Start in
    let a = c.args in
    (rw (place_across_x a.n a.x a.y a.z (omega arith)) c.across.ensures.0, c.across.ensures.1)

pub across-requires-then-outside_by-ne0-2 : goal.across-requires-then-outside_by-ne0-2
across-requires-then-outside_by-ne0-2 c =
    let total = sum (goal.at.across-requires-then-outside_by-ne0-2 c).Start in
    let x = not_outside_inner c.args.n c.args.x (omega arith) in
    let z = not_outside_inner c.args.n c.args.z (omega arith) in
    (omega arith, (omega arith, (x, z)))

pub returns-then-outside_by-ne0-2 : goal.returns-then-outside_by-ne0-2
returns-then-outside_by-ne0-2 c =
    let total = sum (goal.at.returns-then-outside_by-ne0-2 c).Start in
    let a = c.args in
    (rw (place_across_y a.n a.x a.y a.z (omega arith) (omega arith)) c.across-then-outside_by-ne0-2.ensures.0, c.across-then-outside_by-ne0-2.ensures.1)

pub across-requires-then-outside_by-ne0-3 : goal.across-requires-then-outside_by-ne0-3
across-requires-then-outside_by-ne0-3 c =
    let total = sum (goal.at.across-requires-then-outside_by-ne0-3 c).Start in
    let x = not_outside_inner c.args.n c.args.x (omega arith) in
    let y = not_outside_inner c.args.n c.args.y (omega arith) in
    (omega arith, (omega arith, (x, y)))

pub returns-then-outside_by-ne0-3 : goal.returns-then-outside_by-ne0-3
returns-then-outside_by-ne0-3 c =
    let total = sum (goal.at.returns-then-outside_by-ne0-3 c).Start in
    let a = c.args in
    (rw (place_across_z a.n a.x a.y a.z (omega arith) (omega arith) (omega arith)) c.across-then-outside_by-ne0-3.ensures.0, c.across-then-outside_by-ne0-3.ensures.1)

pub overflow_sub-x : goal.overflow_sub-x
overflow_sub-x c = omega (arith, inner c)

pub overflow_sub-y : goal.overflow_sub-y
overflow_sub-y c = omega (arith, inner c)

pub overflow_sub-z : goal.overflow_sub-z
overflow_sub-z c = omega (arith, inner c)

pub in_block-requires : goal.in_block-requires
in_block-requires c = omega (arith, inner c)

pub returns : goal.returns
returns c =
    let a = c.args in
    (rw (place_inner a.n a.x a.y a.z (omega arith) (omega arith) (omega arith)) c.in_block.ensures.0, c.in_block.ensures.1)
