-- `planes::crossings_along` meets its contract. The loop's invariant: what is found is the sum over the lines passed.
use Prim.Native.Nat.{◌+◌, ◌-◌, ◌*◌, ◌≤◌}
use mathlib.Core.Path.{◌≡◌, refl, ap₂, ◌∙◌}
use native.Mathlib.Nat.{mul-add, mul-le-mul_left}
use native.Mathlib.Numerals.{add-one}
use native.Mathlib.Omega.{arith}
use lib.ListN.{take, drop}
use Rattle.cases.specs.RowPlaces.{layer_fits}
use Rattle.sheet.specs.Planes.{plane_places, crossing_sum, measured, plane_along}
use Rattle.sheet.proofs.Parts.{Part, later_part, crossings_of}
use Rattle.sheet.proofs.planes.crossings_along.Goals as goal
use Rattle.sheet.proofs.planes.crossings_along.Goals.{In-loop-y}
use Rattle.sheet.proofs.planes.crossings_along.Invariants.{in_line}

-- the line ends within the plane, and so many edges are few
ends-in : (c : In-loop-y) → (c.args.n + 1) * c.loop-y.y + 1 + c.args.n ≤ plane_places
ends-in c =
    let most : (c.args.n + 1) * c.loop-y.y ≤ (c.args.n + 1) * c.args.n = mul-le-mul_left (c.args.n + 1) (omega (arith, c.loop-y-test.true)) in
    omega (arith, most, mul-add (c.args.n + 1) c.args.n 1, layer_fits c.args.n c.requires.0)

-- a line's points but the last, and all but the first
lines : (c : In-loop-y) → let at = (c.args.n + 1) * c.loop-y.y in
    Part c.args.plane.now at c.args.n (take (at + c.args.n - at) (drop at c.args.plane.now))
    × Part c.args.plane.now (at + 1) c.args.n (take (at + (c.args.n + 1) - (at + 1)) (drop (at + 1) c.args.plane.now))
lines c =
    let at = (c.args.n + 1) * c.loop-y.y in
    (later_part c.args.plane.now at c.args.n refl (omega (arith, ends-in c, c.requires.1)), later_part c.args.plane.now (at + 1) c.args.n (omega arith) (omega (arith, ends-in c, c.requires.1)))

pub loop-y-preserved : goal.loop-y-preserved
loop-y-preserved c =
    let turn = c.loop-y in
    let a = c.args in
    let p = lines (goal.at.loop-y-preserved c).In-loop-y in (
      omega (arith, c.crossings-found.ensures.1, p.0.long, turn.invariant.0, mul-add a.n turn.y 1),
      λ s x is q.
          let line =
          measured s a.n a.threshold
          (λ k t. crossing_sum t a.plane.now ((k + 1) * turn.y) a.plane.now ((k + 1) * turn.y + 1) k ≡ in_line s x turn.y) is
          (plane_along s x a.plane.now q turn.y (omega (arith, c.loop-y-test.true, is.subdivisions_are))) in
          rw add-one (ap₂ ◌+◌ (turn.invariant.1 s x is q) (c.crossings-found.ensures.0 ∙ crossings_of a.threshold p.0 p.1 ∙ line)),
    )
