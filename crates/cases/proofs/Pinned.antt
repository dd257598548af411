-- What the statement of a public function allows is one outcome: of two that it allows for the same inputs, the answers are equal.
use mathlib.Core.Path.{◌≡◌, refl}
use mathlib.Core.List.{[]}
use contract.Lifetimes.{Lfts}
use lib.Ieee.{nan}
use Rattle.model.specs.declared.Header.{Header}
use Rattle.model.specs.Star.{star}
use Rattle.model.specs.Pinned.{pinned}
use Rattle.cases.specs.Lines.{plane_one}
use Rattle.cases.proofs.weighed.Reads as weighed
use Rattle.cases.proofs.plane.Reads as plane

pub weighed_pinned : (κs : Lfts 1) (a : _) (r r' : _) (e e' : _) → weighed.Learnt κs a r e → weighed.Learnt κs a r' e' → r ≡ r'
weighed_pinned κs a r r' e e' h k = pinned h.0 k.0

-- a plane is told of every block that has these samples: of one of them here
pub plane_pinned : (κs : Lfts 1) (a : _) (r r' : _) (e e' : _) → plane.Learnt κs a r e → plane.Learnt κs a r' e' → r.now ≡ r'.now
plane_pinned κs a r r' e e' h k =
    let header : Header = record { block = record { base = record { x = nan; y = nan; z = nan }; size = nan; subdivisions = a.0 }; mask = 0; threshold = nan } in
    let s = star header a.1.0.now [] in
    plane_one s _ _ _ h.0 (pinned h.0 k.0) (h.1 s refl refl) (k.1 s refl refl)
