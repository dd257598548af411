-- `filled` meets its contract, for each answer of the test.
use Rattle.repair.proofs.samples.filled.Goals as goal

pub returns-then-is_usable : goal.returns-then-is_usable
returns-then-is_usable c = rw (← c.is_usable.ensures, c.if-is_usable.true)

pub returns-else-is_usable : goal.returns-else-is_usable
returns-else-is_usable c = rw (← c.is_usable.ensures, c.if-is_usable.false)
