-- `grid::voxel_blocks::across` meets its contract.
use mathlib.Core.Path.{◌∙◌}
use borrow.Author.Tests.{eq-eqb, ne_eqb}
use Rattle.grid.proofs.voxel_blocks.across.Goals as goal

pub returns-then-c-eq0 : goal.returns-then-c-eq0
returns-then-c-eq0 c = (c.on_face.ensures.0 ∙ simp (eq-eqb _ _ c.if-c-eq0.true), c.on_face.ensures.1)

pub returns-else-c-eq0 : goal.returns-else-c-eq0
returns-else-c-eq0 c = (c.on_face-else-c-eq0.ensures.0 ∙ simp (ne_eqb _ _ c.if-c-eq0.false), c.on_face-else-c-eq0.ensures.1)
