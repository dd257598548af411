-- `grid::voxel_blocks::kind_across` meets its contract, test by test.
use borrow.Author.Tests.{eq-eqb, ne_eqb}
use Rattle.grid.proofs.voxel_blocks.kind_across.Goals as goal

pub returns-then-c-eq0 : goal.returns-then-c-eq0
returns-then-c-eq0 c = simp (eq-eqb _ _ c.if-c-eq0.true)

pub returns-then-c-n : goal.returns-then-c-n
returns-then-c-n c = simp (ne_eqb _ _ c.if-c-eq0.false, eq-eqb _ _ c.if-c-n.true)

pub returns : goal.returns
returns c = simp (ne_eqb _ _ c.if-c-eq0.false, ne_eqb _ _ c.if-c-n.false)
