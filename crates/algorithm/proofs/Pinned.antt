-- What the statement of a public function allows is one outcome: of two that it allows for the same inputs, the answers are equal, and so is
-- what each lent buffer holds.
use mathlib.Core.Path.{◌≡◌}
use contract.Lifetimes.{Lfts}
use Rattle.model.specs.Pinned.{pinned}
use Rattle.algorithm.proofs.extract.Reads as extract
use Rattle.algorithm.proofs.extract_whole.Reads as extract-whole
use Rattle.algorithm.proofs.extract_layered.Reads as extract-layered

pub extract_pinned : (κs : Lfts 5) (a : _) (r r' : _) (e e' : _) → extract.Learnt κs a r e → extract.Learnt κs a r' e'
    → (r ≡ r')
    × ((e.1.1.1.0.now ≡ e'.1.1.1.0.now)
    × ((e.1.1.1.1.0.now ≡ e'.1.1.1.1.0.now)
    × (e.1.1.1.1.1.0.now ≡ e'.1.1.1.1.1.0.now)))
extract_pinned κs a r r' e e' h k = (
  λ i. record { answer = pinned h.0 k.0 i; reads = pinned h.1.1.1.1 k.1.1.1.1 i },
  (pinned h.1.0 k.1.0, (pinned h.1.1.0 k.1.1.0, pinned h.1.1.1.0 k.1.1.1.0)),
)

pub extract_whole_pinned : (κs : Lfts 6) (a : _) (r r' : _) (e e' : _) → extract-whole.Learnt κs a r e → extract-whole.Learnt κs a r' e'
    → (r ≡ r')
    × ((e.1.1.1.0.now ≡ e'.1.1.1.0.now)
    × ((e.1.1.1.1.0.now ≡ e'.1.1.1.1.0.now)
    × ((e.1.1.1.1.1.0.now ≡ e'.1.1.1.1.1.0.now)
    × (e.1.1.1.1.1.1.0.now ≡ e'.1.1.1.1.1.1.0.now))))
extract_whole_pinned κs a r r' e e' h k = (
  λ i. record { answer = pinned h.0 k.0 i; reads = pinned h.1.1.1.1.0 k.1.1.1.1.0 i },
  (pinned h.1.0 k.1.0, (pinned h.1.1.0 k.1.1.0, (pinned h.1.1.1.0 k.1.1.1.0, pinned h.1.1.1.1.1 k.1.1.1.1.1))),
)

pub extract_layered_pinned : (κs : Lfts 7) (a : _) (r r' : _) (e e' : _) → extract-layered.Learnt κs a r e → extract-layered.Learnt κs a r' e'
    → (r ≡ r')
    × ((e.1.1.1.1.0.now ≡ e'.1.1.1.1.0.now)
    × ((e.1.1.1.1.1.0.now ≡ e'.1.1.1.1.1.0.now)
    × ((e.1.1.1.1.1.1.0.now ≡ e'.1.1.1.1.1.1.0.now)
    × (e.1.1.1.1.1.1.1.0.now ≡ e'.1.1.1.1.1.1.1.0.now))))
extract_layered_pinned κs a r r' e e' h k = (
  λ i. record { answer = pinned h.0 k.0 i; reads = pinned h.1.1.1.1.0 k.1.1.1.1.0 i },
  (pinned h.1.0 k.1.0, (pinned h.1.1.0 k.1.1.0, (pinned h.1.1.1.0 k.1.1.1.0, pinned h.1.1.1.1.1 k.1.1.1.1.1))),
)
