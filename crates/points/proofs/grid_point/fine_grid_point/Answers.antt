-- `grid_point::fine_grid_point` meets its contract: position, gradient and sample are what its calls ensure.
use Rattle.model.specs.Points.{fine_sample, fine_grid_point}
use Rattle.points.proofs.grid_point.fine_grid_point.Goals as goal

pub returns : goal.returns
unfolding fine_grid_point fine_sample
returns c = λ ns is. cc
