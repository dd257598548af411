-- `grid_point::gradient_inside` meets its contract: the lines through the point have the strides that the code gives, and both steps along each stay
-- in the block.
use borrow.Author.Tests.{lt-ltb}
use native.Mathlib.Omega.{arith}
use Rattle.model.specs.Samples.{value_at}
use Rattle.model.specs.Formulas.{gradient_at}
use Rattle.points.proofs.Insides.{inside_within}
use Rattle.points.proofs.Steps.{reach_x, reach_y, reach_z}
use Rattle.points.proofs.StepReads.{x_up_reads, x_down_reads, y_up_reads, y_down_reads, z_up_reads, z_down_reads}
use Rattle.points.proofs.grid_point.gradient_inside.Goals as goal

pub difference_inside-requires : goal.difference_inside-requires
difference_inside-requires c =
    let h = c.requires.inside in
    let reach = reach_x c.args.n c.args.p (inside_within h) c.requires.n_le_most_fine.0 in
    rw c.in_block-at.ensures.0 (omega (arith, reach.up_in h.x_high, c.requires.n_le_most_fine.1), reach.enough h.x_low)

pub difference_inside-requires-2 : goal.difference_inside-requires-2
difference_inside-requires-2 c =
    let h = c.requires.inside in
    let reach = reach_y c.args.n c.args.p (inside_within h) c.requires.n_le_most_fine.0 in
    rw c.in_block-at.ensures.0 (omega (arith, reach.up_in h.y_high, c.requires.n_le_most_fine.1), reach.enough h.y_low)

pub difference_inside-requires-3 : goal.difference_inside-requires-3
difference_inside-requires-3 c =
    let h = c.requires.inside in
    let reach = reach_z c.args.n c.args.p (inside_within h) c.requires.n_le_most_fine.0 in
    rw c.in_block-at.ensures.0 (omega (arith, reach.up_in h.z_high, c.requires.n_le_most_fine.1), reach.enough h.z_low)

pub returns : goal.returns
unfolding gradient_at value_at
returns c =
    let n = c.args.n in
    let p = c.args.p in
    let inside = c.requires.inside in
    let h = inside_within inside in
    let samples = c.args.samples.now in
    rw (
      c.difference_inside.ensures,
      c.difference_inside-2.ensures,
      c.difference_inside-3.ensures,
      c.in_block-at.ensures.0,
      x_up_reads n p h samples,
      x_down_reads n p h samples,
      y_up_reads n p h samples,
      y_down_reads n p h samples,
      z_up_reads n p h samples,
      z_down_reads n p h samples,
      lt-ltb p.x n inside.x_high,
      lt-ltb 0 p.x inside.x_low,
      lt-ltb p.y n inside.y_high,
      lt-ltb 0 p.y inside.y_low,
      lt-ltb p.z n inside.z_high,
      lt-ltb 0 p.z inside.z_low,
    )
