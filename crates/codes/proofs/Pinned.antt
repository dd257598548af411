-- What the statement of a public function allows is one outcome: of two that it allows for the same inputs, the answers are equal.
use mathlib.Core.Path.{◌≡◌}
use contract.Lifetimes.{Lfts}
use Rattle.model.specs.Pinned.{pinned}
use Rattle.codes.proofs.makes.Reads as makes
use Rattle.codes.proofs.regular_back.Reads as regular-back
use Rattle.codes.proofs.back.Reads as back
use Rattle.codes.proofs.count_made.Reads as count-made
use Rattle.codes.proofs.count_made_inside.Reads as count-made-inside

pub makes_pinned : (κs : Lfts 0) (a : _) (r r' : _) (e e' : _) → makes.Learnt κs a r e → makes.Learnt κs a r' e' → r ≡ r'
makes_pinned κs a r r' e e' h k = pinned h k

pub regular_back_pinned : (κs : Lfts 0) (a : _) (r r' : _) (e e' : _) → regular-back.Learnt κs a r e → regular-back.Learnt κs a r' e' → r ≡ r'
regular_back_pinned κs a r r' e e' h k = pinned h k

pub back_pinned : (κs : Lfts 0) (a : _) (r r' : _) (e e' : _) → back.Learnt κs a r e → back.Learnt κs a r' e' → r ≡ r'
back_pinned κs a r r' e e' h k = pinned h k

pub count_made_pinned : (κs : Lfts 1) (a : _) (r r' : _) (e e' : _) → count-made.Learnt κs a r e → count-made.Learnt κs a r' e' → r ≡ r'
count_made_pinned κs a r r' e e' h k = pinned h.0 k.0

pub count_made_inside_pinned : (κs : Lfts 0) (a : _) (r r' : _) (e e' : _) → count-made-inside.Learnt κs a r e → count-made-inside.Learnt κs a r' e' → r ≡ r'
count_made_inside_pinned κs a r r' e e' h k = pinned h.0 k.0
