-- Meshes that are not the mesh: each is refuted at a small block in proofs/Refuted.antt, and so is the mesh without its last triangle. Definitions only.
use Rattle.std.specs.Prelude.{ℕ, ◌&&◌, ◌||◌, eqb, ltb}
use Rattle.tables.specs.Codes.{step_x, step_y, is_new}
use Rattle.tables.specs.Cases.{transition_code, transition_corner}
use Rattle.model.specs.Star.{Star}
use Rattle.model.specs.Points.{transition_case}
use Rattle.model.specs.Mesh.{CodeUse, Mesh}
use Rattle.finer.specs.Labels.{side_cell, mesh_with}

-- the winding bit ignored: every triangle's corners go out 1, 2, 3
abbrev pub unwound : Star → Mesh
unwound s =
    mesh_with s
    (λ side u v.
    let c = side_cell s side u v in
    record {
      vertices = c.vertices;
      uses = c.uses;
      triangles = c.triangles;
      corner = transition_corner (transition_case s side u v);
      samples = c.samples;
    })

-- a step back in u taken at the rim too, where there is no cell to step to
abbrev pub at_rim : ℕ → ℕ → CodeUse → CodeUse
at_rim v code t =
    let leaves = (eqb (step_x code) 0 && eqb (step_y code) 0) || ltb v (step_y code) in
    record { made = t.made; makes = eqb (is_new code) 1 || leaves; stores = t.stores; place = t.place }

abbrev pub stepped_out : Star → Mesh
stepped_out s =
    mesh_with s
    (λ side u v.
    let c = side_cell s side u v in
    record {
      vertices = c.vertices;
      uses = λ i. at_rim v (transition_code (transition_case s side u v) i) (c.uses i);
      triangles = c.triangles;
      corner = c.corner;
      samples = c.samples;
    })
