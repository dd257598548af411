-- `block::shrink_amount` meets its contract: the literal is the model's factor, and the fraction at 1 is an nth.
use Rattle.points.specs.Fractions.{fraction_at}
use Rattle.points.proofs.Literals.{factor}
use Rattle.points.proofs.block.shrink_amount.Goals as goal

pub returns : goal.returns
returns c =
    let parts = c.requires in
    rw (← factor, fraction_at parts 1 parts.some)
