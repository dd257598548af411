-- What the statement of each public function allows is one outcome: of two that it allows for the same inputs, the answers are equal, and so
-- is what a lent buffer holds.
use mathlib.Core.Path.{◌≡◌}
use contract.Lifetimes.{Lfts}
use Rattle.model.specs.Pinned.{pinned}
use Rattle.stl.proofs.reader.read_stl.Reads as read-stl
use Rattle.stl.proofs.writer.write_stl.Reads as write-stl

pub read_stl_pinned : (κs : Lfts 2) (a : _) (r r' : _) (e e' : _) → read-stl.Learnt κs a r e → read-stl.Learnt κs a r' e'
    → (r ≡ r') × (e.1.0.now ≡ e'.1.0.now)
read_stl_pinned κs a r r' e e' h k = (λ i. (pinned h k i).answer, λ i. (pinned h k i).positions)

pub write_stl_pinned : (κs : Lfts 3) (a : _) (r r' : _) (e e' : _) → write-stl.Learnt κs a r e → write-stl.Learnt κs a r' e'
    → (r ≡ r') × (e.1.1.0.now ≡ e'.1.1.0.now)
write_stl_pinned κs a r r' e e' h k = (λ i. (pinned h k i).answer, λ i. (pinned h k i).bytes)
