-- `planes::plane_figures` meets its contract.
use Prim.Native.Nat.{◌+◌, ◌-◌, ◌*◌, ◌≤◌, zero-le}
use mathlib.Core.Path.{◌≡◌, ◌∙◌}
use native.Mathlib.Nat.{mul-add}
use native.Mathlib.Omega.{arith}
use lib.Ieee.{nan}
use lib.ListN.{get_or, take, drop}
use Rattle.laws.specs.Steps.{total}
use Rattle.laws.specs.Sums.{square}
use Rattle.model.specs.Formulas.{inside_bit}
use Rattle.model.specs.Star.{subdivisions}
use Rattle.sheet.specs.Definition.{inside_at}
use Rattle.cases.specs.RowPlaces.{layer_fits}
use Rattle.sheet.specs.Planes.{plane_places, crossing_sum, plane_figures, measured, plane_inside, plane_up}
use Rattle.sheet.proofs.Parts.{Part, first_part, later_part, insides_of, crossings_of}
use Rattle.sheet.proofs.planes.plane_figures.Goals as goal
use Rattle.sheet.proofs.planes.plane_figures.Goals.{Start}

-- the plane's places, and those of its lines but the last, are few
few : (e : Start) → (e.args.n + 1) * (e.args.n + 1) ≤ plane_places
few e = layer_fits e.args.n e.requires.0

lines-few : (e : Start) → e.args.n + 1 + (e.args.n + 1) * e.args.n ≤ plane_places
lines-few e = omega (arith, few e, mul-add (e.args.n + 1) e.args.n 1)

upper : (e : Start) → let m = e.args.n + 1 in Part e.args.plane.now m (m * e.args.n) (take (m * m - m) (drop m e.args.plane.now))
upper e = let m = e.args.n + 1 in later_part e.args.plane.now m (m * e.args.n) (omega (arith, mul-add m e.args.n 1)) (omega (arith, few e, e.requires.1))

lower : (e : Start) → let m = e.args.n + 1 in Part e.args.plane.now 0 (m * e.args.n) (take (m * e.args.n) e.args.plane.now)
lower e = first_part e.args.plane.now ((e.args.n + 1) * e.args.n) (omega (arith, lines-few e, e.requires.1))

all : (e : Start) → let m = e.args.n + 1 in Part e.args.plane.now 0 (m * m) (take (m * m) e.args.plane.now)
all e = first_part e.args.plane.now ((e.args.n + 1) * (e.args.n + 1)) (omega (arith, few e, e.requires.1))

pub returns : goal.returns
returns c =
    let a = c.args in
    let e = (goal.at.returns c).Start in
    let up_few : c.crossings-y.result ≤ plane_places = omega (arith, c.crossings-y.ensures.1, lines-few e, (lower e).long) in
    let along_few = c.crossings_along-z.ensures.0 in (
      record {
        inside = omega (arith, c.insides.ensures.1, few e, (all e).long);
        x = zero-le;
        y = omega (arith, up_few, along_few);
        z = omega (arith, up_few, along_few);
        vertices = zero-le;
        triangles = zero-le;
      },
      λ s x is p.
          let insides-are =
          c.from.ensures
          ∙ c.insides.ensures.0
          ∙ insides_of a.threshold (all e)
          ∙ measured s a.n a.threshold
          (λ k t. total (λ j. inside_bit t (get_or a.plane.now j nan)) ((k + 1) * (k + 1)) ≡ square (inside_at s x) (subdivisions s + 1)) is
          (plane_inside s x a.plane.now p) in
          let up-are =
          c.from-2.ensures
          ∙ c.crossings-y.ensures.0
          ∙ crossings_of a.threshold (lower e) (upper e)
          ∙ measured s a.n a.threshold
          (λ k t. crossing_sum t a.plane.now 0 a.plane.now (k + 1) ((k + 1) * k) ≡ (plane_figures s x).edges.y) is
          (plane_up s x a.plane.now p) in
          let along-are = c.from-3.ensures ∙ c.crossings_along-z.ensures.1 s x is p in
          λ i. record { inside = insides-are i; edges = record { x = 0; y = up-are i; z = along-are i }; vertices = 0; triangles = 0 },
    )
