-- What the statement of each public function allows is one answer: two that it allows for the same inputs are equal. No buffer is lent to be written.
use mathlib.Core.Path.{◌≡◌}
use contract.Lifetimes.{Lfts}
use Rattle.model.specs.Pinned.{pinned}
use Rattle.lines.proofs.sample_on.Reads as sample-on
use Rattle.lines.proofs.coarse_line.Reads as coarse-line
use Rattle.lines.proofs.fine_line.Reads as fine-line

pub sample_on_pinned : (κs : Lfts 2) (a : _) (r r' : _) (e e' : _) → sample-on.Learnt κs a r e → sample-on.Learnt κs a r' e' → r ≡ r'
sample_on_pinned κs a r r' e e' h k = pinned h k

pub coarse_line_pinned : (κs : Lfts 0) (a : _) (r r' : _) (e e' : _) → coarse-line.Learnt κs a r e → coarse-line.Learnt κs a r' e' → r ≡ r'
coarse_line_pinned κs a r r' e e' h k = pinned h k

pub fine_line_pinned : (κs : Lfts 0) (a : _) (r r' : _) (e e' : _) → fine-line.Learnt κs a r e → fine-line.Learnt κs a r' e' → r ≡ r'
fine_line_pinned κs a r r' e e' h k = pinned h k
