-- `block::moved` meets its contract: a touched Low side, a touched High side, or neither.
use borrow.Author.Tests.{eq-eqb, ne_eqb}
use Rattle.points.proofs.block.moved.Goals as goal

pub returns-then-index-eq0 : goal.returns-then-index-eq0
returns-then-index-eq0 c = rw (eq-eqb c.args.index 0 c.if-index-eq0.true)

pub returns-then-index-n : goal.returns-then-index-n
returns-then-index-n c =
    let a = c.args in
    rw (ne_eqb a.index 0 c.if-index-eq0.false, eq-eqb a.index a.n c.if-index-n.true)

pub returns : goal.returns
returns c =
    let a = c.args in
    rw (ne_eqb a.index 0 c.if-index-eq0.false, ne_eqb a.index a.n c.if-index-n.false)
