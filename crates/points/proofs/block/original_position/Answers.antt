-- `block::original_position` meets its contract, coordinate by coordinate: each is taken with its index's fraction.
use Rattle.points.specs.Fractions.{fraction_at}
use Rattle.points.proofs.block.original_position.Goals as goal

pub returns : goal.returns
returns c =
    let p = c.args.p in
    let parts = c.requires.0 in
    let h = c.requires.1 in
    cc (
      c.regular_coordinate.ensures,
      fraction_at parts p.x h.x_in,
      fraction_at parts p.y h.y_in,
      fraction_at parts p.z h.z_in,
    )
