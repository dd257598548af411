-- What the statement of the pass allows is one outcome: of two that it allows for the same inputs, the answers are equal, and so is what each
-- lent list holds.
use mathlib.Core.Path.{◌≡◌}
use contract.Lifetimes.{Lfts}
use Rattle.model.specs.Pinned.{pinned}
use Rattle.weld.proofs.weld.Reads as weld

pub weld_pinned : (κs : Lfts 3) (a : _) (r r' : _) (e e' : _) → weld.Learnt κs a r e → weld.Learnt κs a r' e'
    → (r ≡ r') × ((e.1.1.0.now ≡ e'.1.1.0.now) × ((e.1.1.1.0.now ≡ e'.1.1.1.0.now) × (e.1.1.1.1.0.now ≡ e'.1.1.1.1.0.now)))
weld_pinned κs a r r' e e' h k =
    (λ i. (pinned h k i).answer, (λ i. (pinned h k i).vertices, (λ i. (pinned h k i).triangles, λ i. (pinned h k i).edges)))
