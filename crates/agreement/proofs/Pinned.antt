-- What the statement of the public judge allows is one answer: of two that it allows for the same inputs, each is the other.
use mathlib.Core.Path.{◌≡◌}
use contract.Lifetimes.{Lfts}
use Rattle.model.specs.Pinned.{pinned}
use Rattle.agreement.proofs.judge_faces.Reads as judge-faces

pub judge_faces_pinned : (κs : Lfts 2) (a : _) (r r' : _) (e e' : _) → judge-faces.Learnt κs a r e → judge-faces.Learnt κs a r' e' → r ≡ r'
judge_faces_pinned κs a r r' e e' h k = pinned h k
