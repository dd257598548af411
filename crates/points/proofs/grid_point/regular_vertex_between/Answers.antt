-- `grid_point::regular_vertex_between` meets its contract: what its calls ensure are the parts of the two grid points, taken with one weight.
use borrow.Author.Rules.{rules}
use Rattle.model.specs.Points.{regular_point}
use Rattle.points.proofs.grid_point.regular_vertex_between.Goals as goal

pub gradient-requires-2 : goal.gradient-requires-2
gradient-requires-2 c = search rules

pub returns : goal.returns
unfolding regular_point
returns c =
    λ ns. rw (
      c.between_vectors-slope.ensures,
      c.gradient-2.ensures,
      c.gradient.ensures,
      c.between_vectors-position.ensures,
      c.regular_position-2.ensures,
      c.regular_position.ensures,
      c.weight-w.ensures,
      c.sample-2.ensures,
      c.sample.ensures,
    )
