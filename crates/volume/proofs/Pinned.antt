-- What the statement of the public function allows is one outcome: of two that it allows for the same inputs, the answers are equal, and so is
-- what the lent buffer holds.
use mathlib.Core.Path.{◌≡◌}
use contract.Lifetimes.{Lfts}
use Rattle.model.specs.Pinned.{pinned}
use Rattle.volume.proofs.cut_block.Reads as cut-block

pub cut_block_pinned : (κs : Lfts 2) (a : _) (r r' : _) (e e' : _) → cut-block.Learnt κs a r e → cut-block.Learnt κs a r' e'
    → (r ≡ r') × (e.1.1.1.1.0.now ≡ e'.1.1.1.1.0.now)
cut_block_pinned κs a r r' e e' h k = (λ i. (pinned h k i).answer, λ i. (pinned h k i).samples)
