-- `filler_at` meets its contract, for each answer of the test.
use Rattle.repair.proofs.samples.filler_at.Goals as goal

pub returns-then-is_usable : goal.returns-then-is_usable
returns-then-is_usable c = rw (← c.is_usable.ensures, c.if-is_usable.true)

pub returns : goal.returns
returns c = rw (← c.is_usable.ensures, c.if-is_usable.false)
