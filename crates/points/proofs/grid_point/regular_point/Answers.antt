-- `grid_point::regular_point` meets its contract: position, gradient and sample are what its three calls ensure.
use Rattle.model.specs.Points.{regular_point}
use Rattle.points.proofs.grid_point.regular_point.Goals as goal

pub returns : goal.returns
unfolding regular_point
returns c = λ ns. rw (c.regular_position-position.ensures, c.gradient-slope.ensures, c.sample-value.ensures)
