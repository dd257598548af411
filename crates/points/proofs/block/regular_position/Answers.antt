-- `block::regular_position` meets its contract: with no named side every point stays, and else a held point stays and every other one
-- moves on each axis that touches a face.
use mathlib.Core.Path.{sym, ◌∙◌}
use Rattle.points.proofs.Shrinking.{stays, moves, stays_unnamed}
use Rattle.points.proofs.block.regular_position.Goals as goal

pub returns-then-header-eq0 : goal.returns-then-header-eq0
returns-then-header-eq0 c = stays_unnamed _ _ _ _ c.original_position-at.ensures c.if-header-eq0.true

pub returns-then-held : goal.returns-then-held
returns-then-held c =
    stays _ _ _ _ c.original_position-at.ensures (sym c.held.ensures ∙ c.if-held.true)

pub returns : goal.returns
returns c =
    rw (c.moved.ensures, c.moved-2.ensures, c.moved-3.ensures, c.shrink_amount-amount.ensures)
    (moves _ _ _ _ c.original_position-at.ensures (sym c.held.ensures ∙ c.if-held.false))
