-- What the statement of each public function allows is one outcome: of two that it allows for the same inputs, the answers are equal, and so
-- is what each lent list holds.
use mathlib.Core.Path.{◌≡◌}
use contract.Lifetimes.{Lfts}
use Rattle.model.specs.Pinned.{pinned}
use Rattle.layers.proofs.making.make_summary.Reads as make-summary
use Rattle.layers.proofs.setting.set_sample.Reads as set-sample
use Rattle.layers.proofs.judging.judge_layers.Reads as judge-layers
use Rattle.layers.proofs.judging.judge_summary.Reads as judge-summary
use Rattle.layers.proofs.judging.next_layer.Reads as next_layer
use Rattle.layers.specs.Over.{one_next}

pub make_summary_pinned : (κs : Lfts 2) (a : _) (r r' : _) (e e' : _) → make-summary.Learnt κs a r e → make-summary.Learnt κs a r' e'
    → (r ≡ r') × (e.1.1.0.now ≡ e'.1.1.0.now)
make_summary_pinned κs a r r' e e' h k = (λ i. (pinned h k i).answer, λ i. (pinned h k i).summary)

pub set_sample_pinned : (κs : Lfts 2) (a : _) (r r' : _) (e e' : _) → set-sample.Learnt κs a r e → set-sample.Learnt κs a r' e'
    → (r ≡ r') × ((e.1.0.now ≡ e'.1.0.now) × (e.1.1.1.1.1.1.0.now ≡ e'.1.1.1.1.1.1.0.now))
set_sample_pinned κs a r r' e e' h k = (λ i. (pinned h k i).answer, (λ i. (pinned h k i).samples, λ i. (pinned h k i).summary))

pub judge_layers_pinned : (κs : Lfts 2) (a : _) (r r' : _) (e e' : _) → judge-layers.Learnt κs a r e → judge-layers.Learnt κs a r' e' → r ≡ r'
judge_layers_pinned κs a r r' e e' h k = pinned h k

pub judge_summary_pinned : (κs : Lfts 2) (a : _) (r r' : _) (e e' : _) → judge-summary.Learnt κs a r e → judge-summary.Learnt κs a r' e' → r ≡ r'
judge_summary_pinned κs a r r' e e' h k = pinned h k

pub next_layer_pinned : (κs : Lfts 1) (a : _) (r r' : _) (e e' : _) → next_layer.Learnt κs a r e → next_layer.Learnt κs a r' e' → r ≡ r'
next_layer_pinned κs a r r' e e' h k = one_next h k
