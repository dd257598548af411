-- `block::fine_position` meets its contract, coordinate by coordinate: the fraction at 1 is an nth.
use Rattle.model.specs.Formulas.{fine_position}
use Rattle.points.specs.Fractions.{fraction_at}
use Rattle.points.proofs.block.fine_position.Goals as goal

pub returns : goal.returns
unfolding fine_position
returns c =
    let parts = c.requires.0 in
    rw (c.fine_coordinate.ensures, c.fine_coordinate-2.ensures, c.fine_coordinate-3.ensures, fraction_at parts 1 parts.some)
