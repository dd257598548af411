-- `grid_point::gradient` meets its contract: the lines through the point have the strides and the extension faces that the code gives.
use Rattle.model.specs.Samples.{value_at}
use Rattle.model.specs.Formulas.{gradient_at}
use Rattle.points.proofs.Steps.{reach_x, reach_y, reach_z}
use Rattle.points.proofs.StepReads.{x_up_reads, x_down_reads, y_up_reads, y_down_reads, z_up_reads, z_down_reads}
use Rattle.points.proofs.grid_point.gradient.Goals as goal

pub difference-requires : goal.difference-requires
difference-requires c =
    rw c.in_block-at.ensures.0 (c.requires.n_le_most_fine.1, reach_x c.args.n c.args.p c.requires.within c.requires.n_le_most_fine.0)

pub difference-requires-2 : goal.difference-requires-2
difference-requires-2 c =
    rw c.in_block-at.ensures.0 (c.requires.n_le_most_fine.1, reach_y c.args.n c.args.p c.requires.within c.requires.n_le_most_fine.0)

pub difference-requires-3 : goal.difference-requires-3
difference-requires-3 c =
    rw c.in_block-at.ensures.0 (c.requires.n_le_most_fine.1, reach_z c.args.n c.args.p c.requires.within c.requires.n_le_most_fine.0)

pub returns : goal.returns
unfolding gradient_at value_at
returns c =
    let n = c.args.n in
    let p = c.args.p in
    let h = c.requires.within in
    let samples = c.args.samples.now in
    rw (
      c.difference.ensures,
      c.difference-2.ensures,
      c.difference-3.ensures,
      c.in_block-at.ensures.0,
      x_up_reads n p h samples,
      x_down_reads n p h samples,
      y_up_reads n p h samples,
      y_down_reads n p h samples,
      z_up_reads n p h samples,
      z_down_reads n p h samples,
    )
