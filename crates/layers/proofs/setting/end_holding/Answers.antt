-- `layers::setting::end_holding` meets its contract, for each answer of the test.
use borrow.Author.Tests.{lt-ltb, le-ltb}
use Rattle.layers.proofs.setting.end_holding.Goals as goal

pub returns-then-x-n : goal.returns-then-x-n
returns-then-x-n c = simp (lt-ltb _ _ c.if-x-n.true)

pub returns-else-x-n : goal.returns-else-x-n
returns-else-x-n c = simp (le-ltb _ _ c.if-x-n.false)
