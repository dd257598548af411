-- `grid::rotation::side_point` meets its contract.
use Rattle.grid.specs.RotationLaws.{point_in, steps_there}
use Rattle.grid.proofs.rotation.side_point.Goals as goal

pub point_from-requires : goal.point_from-requires
point_from-requires c = rw c.rotation_for_side.ensures (steps_there c.requires)

pub returns : goal.returns
returns c =
    let a = c.args in
    let is = rw c.rotation_for_side.ensures at c.point_from.ensures in
    (is, rw is (point_in a.side a.m a.u a.v a.w c.requires))
