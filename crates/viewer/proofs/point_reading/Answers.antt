-- `point_reading` meets its contract: each coordinate is kept one up.
use Rattle.std.specs.Prelude.{◌≤◌}
use Rattle.std.proofs.Common.{arith}
use Rattle.model.specs.Limits.{most_subdivisions}
use Rattle.record.specs.Accepted.{accepted}
use Rattle.viewer.proofs.point_reading.Goals as goal
use Rattle.viewer.proofs.point_reading.Goals.{Start}

few : (c : Start) → c.args.src.now.header.block.subdivisions ≤ most_subdivisions
few c = rw c.args.src.now.told (accepted _ c.args.src.now.passed).few

pub one_up-requires : goal.one_up-requires
one_up-requires c = omega (arith, few (goal.at.one_up-requires c).Start)

pub one_up-requires-2 : goal.one_up-requires-2
one_up-requires-2 c = omega (arith, few (goal.at.one_up-requires-2 c).Start)

pub one_up-requires-3 : goal.one_up-requires-3
one_up-requires-3 c = omega (arith, few (goal.at.one_up-requires-3 c).Start)
