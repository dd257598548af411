-- `Cutout::taken_place` meets its contract: the place's square and coordinates there give its point, and that the volume's nearest.
use mathlib.Core.Path.{ap, ◌∙◌}
use Rattle.volume.specs.Definition.{volume_place, nearest_point, taken_place}
use Rattle.volume.specs.Known.{near_point}
use Rattle.volume.specs.Squares.{InSquare, in_square, point_near}
use Rattle.volume.proofs.places.Cutout.taken_place.Goals as goal
use Rattle.volume.proofs.places.Cutout.taken_place.Goals.{Start}

at : (c : Start) → InSquare c.args.self.n c.args.place
at c = in_square c.args.self.n c.args.place c.requires.1

pub point_on-p-requires : goal.point_on-p-requires
point_on-p-requires c =
    let in_the_square = at (goal.at.point_on-p-requires c).Start in
    (c.requires.0.few, (in_the_square.row, in_the_square.column))

pub nearest_point-requires : goal.nearest_point-requires
nearest_point-requires c =
    (c.requires.0, rw c.point_on-p.ensures (point_near c.args.self.n _ _ (at (goal.at.nearest_point-requires c).Start).row (at (goal.at.nearest_point-requires c).Start).column _))

pub volume_place-requires : goal.volume_place-requires
volume_place-requires c = rw c.nearest_point.ensures (near_point c.requires.0 _)

pub returns : goal.returns
unfolding taken_place
returns c =
    let args = c.args in
    let point = c.nearest_point.ensures ∙ ap (nearest_point args.self.sizes args.self.first) c.point_on-p.ensures in
    (c.volume_place.ensures.0 ∙ ap (volume_place args.self.sizes) point, c.volume_place.ensures.1)
