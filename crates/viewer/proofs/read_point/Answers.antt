-- `read_point` meets its contract: the record is refused, or it passes and its point is read. A signed argument reaches the callee as its bits,
-- and `to_z-of_z` reads the number back.
use Rattle.std.proofs.Common.{◌∙◌}
use mir.Syntax.{w32}
use mir.Facts.{to_z-of_z}
use Rattle.laws.specs.Exits.{handed_on}
use Rattle.viewer.specs.Points.{point_refused, point_passed}
use Rattle.viewer.proofs.read_point.Goals as goal

pub returns-in_err-whole : goal.returns-in_err-whole
returns-in_err-whole c = rw (handed_on _ _ c.from_residual.ensures.1) (point_refused _ _ _ _ _ c.in_err-whole.ensures)

pub returns : goal.returns
returns c =
    let fits = c.ranges in
    let is = rw (to_z-of_z {w = w32} fits.x, to_z-of_z {w = w32} fits.y, to_z-of_z {w = w32} fits.z) at c.point_reading.ensures in
    let answer = rw is at c.answered.ensures in
    rw (← c.in_ok-whole.ensures) (answer ∙ point_passed _ _ _ _ c.in_ok-whole.whole.passed)
