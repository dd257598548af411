-- `layers::extents::greater` meets its contract, for each answer of the test.
use Rattle.layers.proofs.extents.greater.Goals as goal

pub returns-then-best-next : goal.returns-then-best-next
returns-then-best-next c = rw c.if-best-next.true

pub returns-else-best-next : goal.returns-else-best-next
returns-else-best-next c = rw c.if-best-next.false
