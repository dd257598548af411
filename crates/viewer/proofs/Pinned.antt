-- What the statement of each call allows is one answer: two that it allows for the same inputs are equal. The calls lend no buffer.
use mathlib.Core.Path.{◌≡◌}
use contract.Lifetimes.{Lfts}
use Rattle.model.specs.Pinned.{pinned}
use Rattle.viewer.proofs.subdivisions.Reads as subdivisions
use Rattle.viewer.proofs.blank.Reads as blank
use Rattle.viewer.proofs.read_point.Reads as read-point
use Rattle.viewer.proofs.sample.Reads as sample

pub subdivisions_pinned : (κs : Lfts 1) (a : _) (r r' : _) (e e' : _) → subdivisions.Learnt κs a r e → subdivisions.Learnt κs a r' e' → r ≡ r'
subdivisions_pinned κs a r r' e e' h k = pinned h k

pub blank_pinned : (κs : Lfts 1) (a : _) (r r' : _) (e e' : _) → blank.Learnt κs a r e → blank.Learnt κs a r' e' → r ≡ r'
blank_pinned κs a r r' e e' h k = pinned h k

pub read_point_pinned : (κs : Lfts 1) (a : _) (r r' : _) (e e' : _) → read-point.Learnt κs a r e → read-point.Learnt κs a r' e' → r ≡ r'
read_point_pinned κs a r r' e e' h k = pinned h k

pub sample_pinned : (κs : Lfts 1) (a : _) (r r' : _) (e e' : _) → sample.Learnt κs a r e → sample.Learnt κs a r' e' → r ≡ r'
sample_pinned κs a r r' e e' h k = pinned h k
