-- `put_found` meets its contract: one change is put where there is room, or none.
use mathlib.Core.Path.{◌≡◌, ap}
use mathlib.Core.List.{[], ◌∷◌}
use Rattle.repair.specs.Listed.{found_of, listed_none, listed_one, listed_past}
use Rattle.repair.proofs.listing.put_found.Goals as goal
use Rattle.repair.proofs.listing.put_found.Goals.{then-at-changes, else-at-changes}

pub returns-after-at-changes : goal.returns-after-at-changes
returns-after-at-changes c =
    let change = c.in-Some.change in
    let found : found_of c.args.found ≡ change ∷ [] = ap found_of c.in-Some.is in
    elim c.if-at-changes.branch [
      | then-at-changes w ↦ rw (found, w.changes-is, w.put_change.ensures) (listed_one c.args.changes.now c.args.at change)
      | else-at-changes w ↦ rw (found, w.changes-is) (listed_past c.args.changes.now c.args.at change w.if-at-changes.false)
    ]

pub returns-in-None : goal.returns-in-None
returns-in-None c = rw c.in-None.is (listed_none c.args.changes.now c.args.at)
