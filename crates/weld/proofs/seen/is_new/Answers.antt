-- `seen::is_new` meets its contract: the bit that is looked at is the number's. Assumes nothing.
use borrow.Author.Tests.{eqb-true}
use Rattle.weld.proofs.seen.is_new.Goals as goal

pub returns : goal.returns
returns c = λ clear. rw (← c.slot-word.ensures.0) (eqb-true _ _ clear)
