-- `Layer::put_row` meets its contract: its four lines are those at the corners of the cells.
use Prim.Native.Nat.{◌+◌}
use Rattle.cases.specs.Rows.{row_as}
use Rattle.cases.specs.Lines.{case_measured}
use Rattle.regular.proofs.Layer.put_row.Goals as goal

pub returns : goal.returns
returns c =
    let layer = c.args.self in
    λ s x is low high.
    let n_is = is.subdivisions_are in
    row_as
    (case_measured s layer.n layer.threshold x c.args.y _ _ _ _ is (c.line.ensures.line s x n_is low)
    (c.line-2.ensures.line s (x + 1) n_is high) (c.line-3.ensures.line s x n_is low) (c.line-4.ensures.line s (x + 1) n_is high))
    c.put_row.ensures
