-- `grid_point::reading_above` meets its contract: its test is that of `up_from`.
use Prim.Native.Nat.{◌+◌, ◌<◌}
use native.Mathlib.Omega.{arith}
use borrow.Author.Tests.{lt-ltb, le-ltb}
use lib.ListN.{length}
use Rattle.points.proofs.grid_point.reading_above.Goals as goal
use Rattle.points.proofs.grid_point.reading_above.Goals.{Then-step-n}

near_in : (c : Then-step-n) → let a = c.args in a.step.at + a.step.stride < length a.samples.now
near_in c =
    omega (arith, c.requires.0, c.requires.1.up_in c.if-step-n.true)

pub overflow_add-step : goal.overflow_add-step
overflow_add-step c = omega (arith, near_in (goal.at.overflow_add-step c).Then-step-n)

pub reading_at-requires : goal.reading_at-requires
reading_at-requires c = near_in (goal.at.reading_at-requires c).Then-step-n

pub returns-then-step-n : goal.returns-then-step-n
returns-then-step-n c =
    let a = c.args in
    rw (lt-ltb a.step.along a.n c.if-step-n.true) c.reading_at.ensures

pub returns : goal.returns
returns c =
    let a = c.args in
    rw (le-ltb a.step.along a.n c.if-step-n.false) (rw c.on_face.ensures.0 at c.reading_at-2.ensures)
