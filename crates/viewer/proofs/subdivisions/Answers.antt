-- `subdivisions` meets its contract: the record is refused, or it passes and has the subdivisions that are read.
use Rattle.model.specs.Viewer.{subdivisions_answer}
use Rattle.viewer.proofs.subdivisions.Goals as goal

pub returns-in-Ok : goal.returns-in-Ok
unfolding subdivisions_answer
returns-in-Ok c = let whole = c.in-Ok.whole in rw (← c.in-Ok.ensures, whole.passed, ← whole.told)

pub returns-in-Err : goal.returns-in-Err
unfolding subdivisions_answer
returns-in-Err c = rw c.in-Err.ensures c.packed_refusal.ensures
