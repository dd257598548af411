-- `grid::voxel_blocks::outside_by` meets its contract.
use native.Mathlib.Omega.{arith}
use borrow.Author.Tests.{le-leb, lt-leb, eq-eqb, ne_eqb}
use Rattle.model.specs.Samples.{outside}
use Rattle.grid.proofs.voxel_blocks.outside_by.Goals as goal

pub returns-then-c-eq0 : goal.returns-then-c-eq0
unfolding outside
returns-then-c-eq0 c = (simp (eq-eqb _ _ c.if-c-eq0.true), omega arith)

pub returns-then-c-n : goal.returns-then-c-n
unfolding outside
returns-then-c-n c = (simp (ne_eqb _ _ c.if-c-eq0.false, le-leb _ _ c.if-c-n.true), omega arith)

pub returns-then-c-n-2 : goal.returns-then-c-n-2
unfolding outside
returns-then-c-n-2 c =
    (simp (ne_eqb _ _ c.if-c-eq0.false, lt-leb _ _ c.if-c-n.false, eq-eqb _ _ c.if-c-n-2.true), omega arith)

pub returns-else-c-n-2 : goal.returns-else-c-n-2
unfolding outside
returns-else-c-n-2 c =
    (simp (ne_eqb _ _ c.if-c-eq0.false, lt-leb _ _ c.if-c-n.false, ne_eqb _ _ c.if-c-n-2.false), omega arith)
