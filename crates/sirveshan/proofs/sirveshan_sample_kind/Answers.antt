-- `sirveshan_sample_kind` meets its contract: the coordinates pass as they are, and the point read is taken apart.
use mathlib.Core.Path.{ap, ◌∙◌}
use mir.Syntax.{w32}
use mir.Facts.{to_z-of_z}
use Rattle.sirveshan.specs.Calls.{as_sampled}
use Rattle.sirveshan.proofs.sirveshan_sample_kind.Goals as goal

pub returns : goal.returns
returns c =
    let fits = c.ranges in
    let is = rw (to_z-of_z {w = w32} fits.x, to_z-of_z {w = w32} fits.y, to_z-of_z {w = w32} fits.z) at c.read_point.ensures in
    c.from.ensures ∙ ap as_sampled is
