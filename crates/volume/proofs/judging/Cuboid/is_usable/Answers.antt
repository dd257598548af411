-- `Cuboid::is_usable` meets its contract. The invariant: the flag tells whether the planes passed can be used.
use Prim.Native.Nat.{◌+◌, ◌*◌, ◌≤◌}
use native.Mathlib.Numerals.{add-one}
use native.Mathlib.Omega.{arith}
use mathlib.Core.Path.{◌≡◌, refl, ap, ◌∙◌}
use lib.ListN.{length}
use Rattle.volume.specs.Boxes.{box_usable}
use Rattle.volume.proofs.judging.Cuboid.is_usable.Goals as goal
use Rattle.volume.proofs.judging.Cuboid.is_usable.Goals.{In-loop-z}

-- the first sample of this turn's plane is in the volume
first-in : (c : In-loop-z) → let args = c.args in
    4 * (args.self.from + args.self.stride * c.loop-z.z) + 4 ≤ length args.bytes.now
first-in c =
    let pre = c.requires in
    omega (arith, pre.inside 0 0 c.loop-z.z pre.some pre.lines (omega arith))

pub loop-z-init : goal.loop-z-init
loop-z-init c = (omega arith, refl)

pub overflow_mul-plane : goal.overflow_mul-plane
overflow_mul-plane c = omega (arith, first-in (goal.at.overflow_mul-plane c).In-loop-z)

pub overflow_add-plane : goal.overflow_add-plane
overflow_add-plane c = omega (arith, first-in (goal.at.overflow_add-plane c).In-loop-z)

pub plane_usable-usable-requires : goal.plane_usable-usable-requires
plane_usable-usable-requires c =
    let pre = c.requires in
    record { some = pre.some; inside = λ x y hx hy. pre.inside x y c.loop-z.z hx hy (omega arith) }

pub overflow_step-z : goal.overflow_step-z
overflow_step-z c = omega arith

pub loop-z-smaller : goal.loop-z-smaller
loop-z-smaller c = omega arith

pub loop-z-preserved : goal.loop-z-preserved
loop-z-preserved c = (omega arith, rw (add-one, c.loop-z.invariant.1, c.plane_usable-usable.ensures))

pub returns : goal.returns
returns c =
    let args = c.args in
    let all : c.loop-z.z ≡ args.self.planes = omega arith in
    c.loop-z.invariant.1 ∙ ap (box_usable args.bytes.now args.self.from args.self.count args.self.step args.self.rows args.self.stride) all
