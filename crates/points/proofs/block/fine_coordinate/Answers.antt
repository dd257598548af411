-- `block::fine_coordinate` meets its contract: the literal is the model's half.
use Rattle.points.proofs.Literals.{half}
use Rattle.points.proofs.block.fine_coordinate.Goals as goal

pub returns : goal.returns
returns c = rw (← half)
