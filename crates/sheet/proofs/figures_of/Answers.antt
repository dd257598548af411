-- `figures_of` meets its contract.
use Prim.Native.Nat.{◌+◌}
use mathlib.Core.Path.{ap, ◌∙◌}
use native.Mathlib.Omega.{arith}
use Rattle.model.specs.declared.Header.{Header}
use Rattle.model.specs.Record.{star_of}
use Rattle.sheet.specs.Definition.{vertex_figure, triangle_figure, figures_of}
use Rattle.sheet.specs.Planes.{planes_to, all_planes}
use Rattle.sheet.proofs.figures_of.Goals as goal

pub returns : goal.returns
unfolding figures_of vertex_figure triangle_figure
returns c =
    let src = c.args.src.now in
    let s = star_of src.bytes.now in
    let all = c.count_layers-regular.ensures.1 ∙ ap (λ (h : Header). planes_to s h.block.subdivisions) src.told ∙ all_planes s in (
      record {
        inside = omega (arith, c.count_layers-regular.ensures.0.inside);
        x = omega (arith, c.count_layers-regular.ensures.0.x);
        y = omega (arith, c.count_layers-regular.ensures.0.y);
        z = omega (arith, c.count_layers-regular.ensures.0.z);
        vertices = omega (arith, c.count_layers-regular.ensures.0.vertices, c.count_sides-transition.ensures.0.vertices);
        triangles = omega (arith, c.count_layers-regular.ensures.0.triangles, c.count_sides-transition.ensures.0.triangles);
      },
      λ i.
          record {
            inside = (all i).inside;
            edges = record { x = (all i).edges.x; y = (all i).edges.y; z = (all i).edges.z };
            vertices = (all i).vertices + c.count_sides-transition.ensures.1.vertices_are i;
            triangles = (all i).triangles + c.count_sides-transition.ensures.1.triangles_are i;
          },
    )
