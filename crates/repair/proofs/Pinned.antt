-- What the statement of the public function allows is one outcome: of two that it allows for the same inputs, the answers are equal, and so is
-- what each lent list holds.
use mathlib.Core.Path.{◌≡◌}
use contract.Lifetimes.{Lfts}
use Rattle.model.specs.Pinned.{pinned}
use Rattle.repair.proofs.repair.Reads as repair

pub repair_pinned : (κs : Lfts 3) (a : _) (r r' : _) (e e' : _) → repair.Learnt κs a r e → repair.Learnt κs a r' e'
    → (r ≡ r')
    × ((e.1.0.now ≡ e'.1.0.now) × ((e.1.1.0.now ≡ e'.1.1.0.now) × (e.1.1.1.1.0.now ≡ e'.1.1.1.1.0.now)))
repair_pinned κs a r r' e e' h k =
    (λ i. (pinned h k i).answer, (λ i. (pinned h k i).left.centre, (λ i. (pinned h k i).left.neighbours, λ i. (pinned h k i).changes)))
