-- `sirveshan_sample` meets its contract: the coordinates pass as they are.
use mir.Syntax.{w32}
use mir.Facts.{to_z-of_z}
use Rattle.sirveshan.proofs.sirveshan_sample.Goals as goal

pub returns : goal.returns
returns c =
    let fits = c.ranges in
    rw (to_z-of_z {w = w32} fits.x, to_z-of_z {w = w32} fits.y, to_z-of_z {w = w32} fits.z) at c.sample.ensures
