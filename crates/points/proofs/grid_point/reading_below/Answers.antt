-- `grid_point::reading_below` meets its contract: its test is that of `down_from`.
use borrow.Author.Tests.{lt-ltb, le-ltb}
use Rattle.points.proofs.grid_point.reading_below.Goals as goal

pub overflow_sub-step : goal.overflow_sub-step
overflow_sub-step c = c.requires.1.enough c.if-step-gt0.true

pub returns-then-step-gt0 : goal.returns-then-step-gt0
returns-then-step-gt0 c =
    rw (lt-ltb 0 c.args.step.along c.if-step-gt0.true) c.reading_at.ensures

pub returns : goal.returns
returns c =
    let a = c.args in
    rw (le-ltb 0 a.step.along c.if-step-gt0.false) (rw c.on_face.ensures.0 at c.reading_at-2.ensures)
