-- Meshes that are not the mesh: each is refuted at a small block in proofs/Refuted.antt. Definitions only.
use Rattle.std.specs.Prelude.{ℕ, ◌-◌, not, ◌&&◌, ◌++◌, eqb, ltb, length, take, set, replicate}
use Rattle.tables.specs.Codes.{step_x, step_y}
use Rattle.tables.specs.Cases.{regular_code}
use Rattle.model.specs.declared.Triangle.{Triangle}
use Rattle.laws.specs.Steps.{iterate}
use Rattle.model.specs.Star.{Star, subdivisions}
use Rattle.model.specs.Points.{regular_case}
use Rattle.model.specs.Mesh.{CodeUse, Cell, Mesh, empty_mesh, cell_step, regular_use, regular_cell, regular_mesh}
use Rattle.closed.specs.Clauses.{no_vertex, no_triangle, triangle_at}

-- no vertices and no triangles
abbrev pub emptied : Star → Mesh
emptied s = empty_mesh (subdivisions s)

-- the first cell's mesh, and the others only counted on
abbrev pub first_only : Star → Mesh
first_only s =
    let first = cell_step (regular_cell s 0 0 0) (empty_mesh (subdivisions s)) in
    let all = regular_mesh s in
    record {
      made = first.made ++ replicate (length all.made - length first.made) no_vertex;
      triangles = first.triangles ++ replicate (length all.triangles - length first.triangles) no_triangle;
      store = all.store;
      reads = all.reads;
    }

-- the last triangle dropped
abbrev pub last_dropped : Mesh → Mesh
last_dropped m = record { made = m.made; triangles = take (length m.triangles - 1) m.triangles; store = m.store; reads = m.reads }

-- the first triangle turned round: two of its corners exchanged
abbrev pub turned_round : Triangle → Triangle
turned_round t = record { a = t.a; b = t.c; c = t.b }

abbrev pub first_turned : Star → Mesh
first_turned s =
    let all = regular_mesh s in
    record { made = all.made; triangles = set all.triangles 0 (turned_round (triangle_at all 0)); store = all.store; reads = all.reads }

-- with steps in x and y at x = 0 and y above 0, the index is still taken from the y neighbour
abbrev pub slipped_use : Star → ℕ → ℕ → ℕ → ℕ → CodeUse
slipped_use s x y z code =
    let t = regular_use s x y z code in
    let slips = eqb x 0 && (ltb 0 y && (eqb (step_x code) 1 && eqb (step_y code) 1)) in
    record { made = t.made; makes = t.makes && not slips; stores = t.stores; place = t.place }

abbrev pub slipped_cell : Star → ℕ → ℕ → ℕ → Cell
slipped_cell s x y z =
    let c = regular_cell s x y z in
    record {
      vertices = c.vertices;
      uses = λ i. slipped_use s x y z (regular_code (regular_case s x y z) i);
      triangles = c.triangles;
      corner = c.corner;
      samples = c.samples;
    }

abbrev pub slipped : Star → Mesh
slipped s =
    let n = subdivisions s in
    iterate (λ x. iterate (λ y. iterate (λ z. cell_step (slipped_cell s x y z)) n) n) n (empty_mesh n)
