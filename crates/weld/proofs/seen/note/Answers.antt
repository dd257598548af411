-- `seen::note` meets its contract: the bit that is set is the number's, and the others stay. Assumes nothing.
use Rattle.weld.specs.Seen.{marked}
use Rattle.weld.proofs.seen.note.Goals as goal

pub returns : goal.returns
returns c =
    let a = c.args in
    rw c.slot-word.ensures.0 (marked a.seen.now a.number (rw c.slot-word.ensures.0 at c.slot-word.ensures.1))
