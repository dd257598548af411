-- `grid::face_walk::face_walk` meets its contract by what its calls ensure: the first place is that of the point (0, 0, w), and the steps are
-- the side's unit vectors.
use Rattle.grid.specs.RotationLaws.{units}
use Rattle.grid.specs.Walks.{side_place}
use Rattle.grid.proofs.face_walk.face_walk.Goals as goal

pub stride_along-requires : goal.stride_along-requires
stride_along-requires c =
    let on = c.requires.1 in
    rw c.rotation_for_side-r.ensures ((c.requires.0, on.few), (units c.args.side on.side_is).u)

pub stride_along-requires-2 : goal.stride_along-requires-2
stride_along-requires-2 c =
    let on = c.requires.1 in
    rw c.rotation_for_side-r.ensures ((c.requires.0, on.few), (units c.args.side on.side_is).v)

pub returns : goal.returns
unfolding side_place
returns c =
    rw (
      c.stride_along-2.ensures,
      c.stride_along.ensures,
      c.in_block.ensures.0,
      c.rotation_for_side-r.ensures,
      c.side_point-p.ensures.0,
    )
