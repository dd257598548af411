-- `judge::unless` meets its contract, for each answer of the test.
use Rattle.judge.proofs.unless.Goals as goal

pub returns-then-holds : goal.returns-then-holds
returns-then-holds c = rw c.if-holds.true

pub returns-else-holds : goal.returns-else-holds
returns-else-holds c = rw c.if-holds.false
