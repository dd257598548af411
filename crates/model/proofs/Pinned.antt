-- What the law of each conversion and sum allows is one answer: of two that it allows for the same inputs, each is the other.
use mathlib.Core.Path.{◌≡◌}
use contract.Lifetimes.{Lfts}
use Rattle.model.specs.Pinned.{pinned}
use Rattle.model.proofs.CountsAdd.add.Reads as counts-add
use Rattle.model.proofs.NumbersFromRefusal.from.Reads as numbers-from

pub Counts_add_pinned : (κs : Lfts 0) (a : _) (r r' : _) (e e' : _) → counts-add.Learnt κs a r e → counts-add.Learnt κs a r' e' → r ≡ r'
Counts_add_pinned κs a r r' e e' h k = pinned h k

pub Numbers_from_pinned : (κs : Lfts 0) (a : _) (r r' : _) (e e' : _) → numbers-from.Learnt κs a r e → numbers-from.Learnt κs a r' e' → r ≡ r'
Numbers_from_pinned κs a r r' e e' h k = pinned h k
