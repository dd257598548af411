-- `Cuboid::plane_usable` meets its contract. The invariant: the flag tells whether the rows passed can be used.
use Prim.Native.Nat.{◌+◌, ◌*◌, ◌≤◌}
use native.Mathlib.Numerals.{add-one}
use native.Mathlib.Omega.{arith}
use mathlib.Core.Path.{◌≡◌, refl, ap, ◌∙◌}
use lib.ListN.{length}
use Rattle.volume.specs.Boxes.{plane_usable}
use Rattle.volume.proofs.judging.Cuboid.plane_usable.Goals as goal
use Rattle.volume.proofs.judging.Cuboid.plane_usable.Goals.{In-loop-y}

-- the first sample of this turn's row is in the volume
first-in : (c : In-loop-y) → let args = c.args in
    4 * (args.self.from + args.self.step * c.loop-y.y) + 4 ≤ length args.bytes.now
first-in c =
    let pre = c.requires in
    omega (arith, pre.inside 0 c.loop-y.y pre.some (omega arith))

pub loop-y-init : goal.loop-y-init
loop-y-init c = (omega arith, refl)

pub overflow_mul-row : goal.overflow_mul-row
overflow_mul-row c = omega (arith, first-in (goal.at.overflow_mul-row c).In-loop-y)

pub overflow_add-row : goal.overflow_add-row
overflow_add-row c = omega (arith, first-in (goal.at.overflow_add-row c).In-loop-y)

pub row_usable-usable-requires : goal.row_usable-usable-requires
row_usable-usable-requires c x l = c.requires.inside x c.loop-y.y l (omega arith)

pub overflow_step-y : goal.overflow_step-y
overflow_step-y c = omega arith

pub loop-y-smaller : goal.loop-y-smaller
loop-y-smaller c = omega arith

pub loop-y-preserved : goal.loop-y-preserved
loop-y-preserved c = (omega arith, rw (add-one, c.loop-y.invariant.1, c.row_usable-usable.ensures))

pub returns : goal.returns
returns c =
    let args = c.args in
    let all : c.loop-y.y ≡ args.self.rows = omega arith in
    c.loop-y.invariant.1 ∙ ap (plane_usable args.bytes.now args.self.from args.self.count args.self.step) all
