-- `grid::rotation::point_from` meets its contract: the three moves end at the point.
use Rattle.grid.specs.RotationLaws.{end_is}
use Rattle.grid.proofs.rotation.point_from.Goals as goal

pub moved-requires-2 : goal.moved-requires-2
moved-requires-2 c =
    let pre = c.requires in
    (pre.0.v, rw c.moved.ensures pre.1.by_v)

pub moved-requires-3 : goal.moved-requires-3
moved-requires-3 c =
    let pre = c.requires in
    (pre.0.w, rw (c.moved-2.ensures, c.moved.ensures) pre.1.by_w)

pub returns : goal.returns
returns c =
    rw (c.moved-3.ensures, c.moved-2.ensures, c.moved.ensures)
    (end_is c.args.r c.args.m c.args.u c.args.v c.args.w c.requires.1)
