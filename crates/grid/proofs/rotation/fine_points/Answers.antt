-- `grid::rotation::fine_points` meets its contract: the neighbour's point is the face's, moved by 2n along W.
use mathlib.Core.Path.{refl}
use Rattle.grid.specs.RotationLaws.{here_on, there_on, steps_there, across_move, across_is, fine_point_in, neighbour_point_in}
use Rattle.grid.proofs.rotation.fine_points.Goals as goal

pub point_from-here-requires : goal.point_from-here-requires
point_from-here-requires c = rw c.rotation_for_side-r.ensures (steps_there (here_on c.requires))

pub moved-there-requires : goal.moved-there-requires
moved-there-requires c =
    rw (c.point_from-here.ensures, c.rotation_for_side-r.ensures) (across_move (there_on c.requires))

pub returns : goal.returns
returns c =
    let h = c.requires in
    rw (c.moved-there.ensures, c.point_from-here.ensures, c.rotation_for_side-r.ensures, across_is (there_on h))
    ((refl, fine_point_in _ _ _ _ h), (refl, neighbour_point_in _ _ _ _ h))
