-- `sample` meets its contract: the record is refused, or it passes and the reading of its point becomes one number.
use Rattle.std.proofs.Common.{◌∙◌, ap}
use mir.Syntax.{w32}
use mir.Facts.{to_z-of_z}
use Rattle.model.specs.Viewer.{point_bits, sample_answer}
use Rattle.viewer.specs.Points.{point_refused, point_passed}
use Rattle.viewer.proofs.sample.Goals as goal

pub returns-in-Ok : goal.returns-in-Ok
unfolding sample_answer
returns-in-Ok c =
    let fits = c.ranges in
    let is = rw (to_z-of_z {w = w32} fits.x, to_z-of_z {w = w32} fits.y, to_z-of_z {w = w32} fits.z) at c.point_reading.ensures in
    let answer = rw is at c.answered.ensures in
    rw (← c.in-Ok.ensures) (c.point_bits.ensures ∙ ap point_bits (answer ∙ point_passed _ _ _ _ c.in-Ok.whole.passed))

pub returns-in-Err : goal.returns-in-Err
unfolding sample_answer
returns-in-Err c = c.packed_refusal.ensures ∙ ap point_bits (point_refused _ _ _ _ _ c.in-Err.ensures)
