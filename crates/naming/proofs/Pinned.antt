-- What the statement of the public judge allows is one answer: of two that it allows for the same inputs, each is the other.
use mathlib.Core.Path.{◌≡◌}
use contract.Lifetimes.{Lfts}
use Rattle.model.specs.Pinned.{pinned}
use Rattle.naming.proofs.judge_named.Reads as judge-named

pub judge_named_pinned : (κs : Lfts 1) (a : _) (r r' : _) (e e' : _) → judge-named.Learnt κs a r e → judge-named.Learnt κs a r' e' → r ≡ r'
judge_named_pinned κs a r r' e e' h k = pinned h k
