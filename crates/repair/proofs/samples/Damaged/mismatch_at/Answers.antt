-- `Damaged::mismatch_at` meets its contract: a point of a side that is not named has no change, and any other has one where its two samples do not agree.
use Prim.Native.Nat.{◌<◌}
use mathlib.Core.Path.{◌≡◌, sym, ◌∙◌, subst}
use native.Mathlib.Omega.{arith}
use lib.ListN.{length}
use Rattle.grid.specs.Counts.{most_samples}
use Rattle.repair.specs.declared.faces.Places.{Places}
use Rattle.repair.specs.Damaged.{delivered}
use Rattle.repair.specs.Definition.{change_unless}
use Rattle.repair.specs.Filled.{filled_in}
use Rattle.repair.specs.Faces.{Spot, mismatch_spot, coarse_held, fine_held, places_small, on_spot, nothing_at, found_at}
use Rattle.repair.proofs.samples.Damaged.mismatch_at.Goals as goal
use Rattle.repair.proofs.samples.Damaged.mismatch_at.Goals.{After-agree, After-places_of-places, Else-not-is_named}

is_spot : (c : Else-not-is_named) → Spot c.args.self.now.header.block.subdivisions c.args.self.now.header.mask c.spot_of-at.result
is_spot c =
    let a = c.args in
    let on = on_spot a.self.now.header a.self.now.filler (delivered a.self.now) c.args.self.now.shaped a.k c.requires c.spot_of-at.ensures in
    record { sides = c.args.self.now.shaped.sides; on = on; is_named = sym c.is_named.ensures ∙ c.if-not-is_named.false }

coarse-in : (c : After-places_of-places) → Spot c.args.self.now.header.block.subdivisions c.args.self.now.header.mask c.spot_of-at.result → c.places_of-places.result.coarse < length c.args.self.now.centre.now
coarse-in c spot =
    let a = c.args in
    let at = c.spot_of-at.result in
    subst (λ (p : Places). p.coarse < length c.args.self.now.centre.now) (sym c.places_of-places.ensures)
    (coarse_held a.self.now.header (delivered a.self.now) c.args.self.now.shaped at.side at.u at.v spot.on spot.is_named)

fine_in : (c : After-places_of-places) → Spot c.args.self.now.header.block.subdivisions c.args.self.now.header.mask c.spot_of-at.result → c.places_of-places.result.fine < length c.args.self.now.neighbours.now
fine_in c spot =
    let a = c.args in
    let at = c.spot_of-at.result in
    subst (λ (p : Places). p.fine < length c.args.self.now.neighbours.now) (sym c.places_of-places.ensures)
    (fine_held a.self.now.header (delivered a.self.now) c.args.self.now.shaped at.side at.u at.v spot.on spot.is_named)

both-few : (c : After-places_of-places) → Spot c.args.self.now.header.block.subdivisions c.args.self.now.header.mask c.spot_of-at.result → (c.places_of-places.result.coarse < most_samples) × (c.places_of-places.result.fine < most_samples)
both-few c spot =
    subst (λ (p : Places). (p.coarse < most_samples) × (p.fine < most_samples)) (sym c.places_of-places.ensures)
    (places_small c.args.self.now.header.block.subdivisions c.args.self.now.header.mask c.spot_of-at.result spot)

-- the change by what was found
judged : (c : After-agree) → let a = c.args in
    change_unless c.agree.result (record { list = 1; place = c.places_of-places.result.fine; old = c.filled-there.result; new = c.filled-here.result })
    ≡ mismatch_spot a.self.now.header (filled_in a.self.now.filler (delivered a.self.now)) a.k
judged c =
    let a = c.args in
    found_at a.self.now.header a.self.now.filler (delivered a.self.now) c.args.self.now.shaped a.k c.requires c.spot_of-at.ensures (sym c.is_named.ensures ∙ c.if-not-is_named.false)
    c.places_of-places.ensures c.filled-here.ensures c.filled-there.ensures c.agree.ensures

pub is_named-requires : goal.is_named-requires
is_named-requires c =
    let a = c.args in
    (on_spot a.self.now.header a.self.now.filler (delivered a.self.now) c.args.self.now.shaped a.k c.requires c.spot_of-at.ensures).side_is

pub returns-then-not-is_named : goal.returns-then-not-is_named
returns-then-not-is_named c = let a = c.args in
    let none = sym c.is_named.ensures ∙ c.if-not-is_named.true in
    nothing_at a.self.now.header a.self.now.filler (delivered a.self.now) c.args.self.now.shaped a.k c.requires c.spot_of-at.ensures none

pub places_of-places-requires : goal.places_of-places-requires
places_of-places-requires c = is_spot c

pub offset_bounds-self-coarse : goal.offset_bounds-self-coarse
offset_bounds-self-coarse c = omega (arith, coarse-in c (is_spot (goal.at.offset_bounds-self-coarse c).Else-not-is_named))

pub bounds-self-coarse : goal.bounds-self-coarse
bounds-self-coarse c =
    let at = goal.at.bounds-self-coarse c in
    omega (arith, coarse-in at.After-places_of-places (is_spot at.Else-not-is_named))

pub offset_bounds-self-fine : goal.offset_bounds-self-fine
offset_bounds-self-fine c =
    let at = goal.at.offset_bounds-self-fine c in
    omega (arith, fine_in at.After-places_of-places (is_spot at.Else-not-is_named))

pub bounds-self-fine : goal.bounds-self-fine
bounds-self-fine c =
    let at = goal.at.bounds-self-fine c in
    omega (arith, fine_in at.After-places_of-places (is_spot at.Else-not-is_named))

pub returns-then-agree : goal.returns-then-agree
returns-then-agree c = rw c.if-agree.true at (judged (goal.at.returns-then-agree c).After-agree)

pub overflow_cast-result : goal.overflow_cast-result
overflow_cast-result c =
    let at = goal.at.overflow_cast-result c in
    omega (arith, both-few at.After-places_of-places (is_spot at.Else-not-is_named))

pub returns : goal.returns
returns c = rw c.if-agree.false at (judged (goal.at.returns c).After-agree)
