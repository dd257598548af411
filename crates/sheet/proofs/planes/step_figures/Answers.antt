-- `planes::step_figures` meets its contract.
use Prim.Native.Nat.{◌+◌, ◌*◌, ◌≤◌}
use mathlib.Core.Path.{◌≡◌, ◌∙◌}
use native.Mathlib.Omega.{arith}
use lib.Ieee.{Float}
use lib.ListN.{length, take}
use mathlib.Core.List.{List}
use Rattle.laws.specs.Sums.{square}
use Rattle.model.specs.Star.{subdivisions}
use Rattle.sheet.specs.Definition.{crosses_x}
use Rattle.cases.specs.RowPlaces.{layer_fits}
use Rattle.sheet.specs.Planes.{plane_places, crossing_sum, measured, plane_across}
use Rattle.sheet.proofs.Parts.{Part, first_part, crossings_of}
use Rattle.sheet.proofs.planes.step_figures.Goals as goal
use Rattle.sheet.proofs.planes.step_figures.Goals.{Start}

few : (e : Start) → (e.args.n + 1) * (e.args.n + 1) ≤ plane_places
few e = layer_fits e.args.n e.requires.n_le_most_subdivisions

all : (e : Start) (plane : List Float) → length plane ≡ plane_places → let m = e.args.n + 1 in Part plane 0 (m * m) (take (m * m) plane)
all e plane long = first_part plane ((e.args.n + 1) * (e.args.n + 1)) (omega (arith, few e, long))

pub returns : goal.returns
returns c =
    let a = c.args in
    let e = (goal.at.returns c).Start in
    let low = all e a.low.now c.requires.low_len.0 in (
      record {
        inside = c.plane_figures-plane.ensures.0.inside;
        x = omega (arith, c.crossings-x.ensures.1, few e, low.long);
        y = c.plane_figures-plane.ensures.0.y;
        z = c.plane_figures-plane.ensures.0.z;
        vertices = omega (arith, c.requires.few.vertices);
        triangles = omega (arith, c.requires.few.triangles);
      },
      λ s x is p q counted.
          let above = c.plane_figures-plane.ensures.1 s (x + 1) is q in
          let across-are =
          c.from.ensures
          ∙ c.crossings-x.ensures.0
          ∙ crossings_of a.threshold low (all e a.high.now c.requires.low_len.1)
          ∙ measured s a.n a.threshold
          (λ k t. crossing_sum t a.low.now 0 a.high.now 0 ((k + 1) * (k + 1)) ≡ square (crosses_x s x) (subdivisions s + 1)) is
          (plane_across s x a.low.now a.high.now p q) in
          λ i.
          record {
            inside = (above i).inside;
            edges = record { x = across-are i; y = (above i).edges.y; z = (above i).edges.z };
            vertices = counted.vertices_are i;
            triangles = counted.triangles_are i;
          },
    )
