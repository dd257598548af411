-- `regular_back` meets its contract: no step leaves the block, so no difference wraps. Assumes nothing.
use Prim.Native.Nat.{◌≤◌}
use native.Mathlib.Omega.{arith}
use Rattle.tables.specs.Codes.{step_x, step_y, step_z}
use Rattle.codes.specs.Staying.{regular_stays}
use Rattle.codes.proofs.regular_back.Goals as goal
use Rattle.codes.proofs.regular_back.Goals.{Start}

-- each step stays inside, as the entry has it
stays : (b : Start) → let a = b.args in (step_x a.code ≤ a.at.x) × (step_y a.code ≤ a.at.y) × (step_z a.code ≤ a.at.z)
stays b =
    let a = b.args in
    regular_stays a.at.x a.at.y a.at.z a.code b.requires

pub overflow_sub-result : goal.overflow_sub-result
overflow_sub-result c = omega (arith, (stays (goal.at.overflow_sub-result c).Start).0)

pub overflow_sub-result-2 : goal.overflow_sub-result-2
overflow_sub-result-2 c = omega (arith, (stays (goal.at.overflow_sub-result-2 c).Start).1)

pub overflow_sub-result-3 : goal.overflow_sub-result-3
overflow_sub-result-3 c = omega (arith, (stays (goal.at.overflow_sub-result-3 c).Start).2)

pub returns : goal.returns
returns c = cc
