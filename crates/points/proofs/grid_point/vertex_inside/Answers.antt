-- `grid_point::vertex_inside` meets its contract: what its calls ensure are the parts of the two grid points, which shrinking does not move, taken
-- with one weight.
use borrow.Author.Rules.{rules}
use Rattle.model.specs.Points.{regular_point}
use Rattle.points.proofs.Insides.{stays_inside}
use Rattle.points.proofs.grid_point.vertex_inside.Goals as goal

pub gradient_inside-requires-2 : goal.gradient_inside-requires-2
gradient_inside-requires-2 c = search rules

pub returns : goal.returns
unfolding regular_point
returns c =
    let a = c.args in
    λ ns. rw (
      c.between_vectors-slope.ensures,
      c.gradient_inside-2.ensures,
      c.gradient_inside.ensures,
      c.between_vectors-position.ensures,
      stays_inside a.grid.now.lent.header.block a.grid.now.lent.header.mask a.b _ c.original_position-2.ensures c.requires.1,
      stays_inside a.grid.now.lent.header.block a.grid.now.lent.header.mask a.a _ c.original_position.ensures c.requires.0,
      c.weight-w.ensures,
      c.sample-2.ensures,
      c.sample.ensures,
    )
