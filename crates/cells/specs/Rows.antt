-- A class's row of cell data, with the winding: what a cell's triangles are read from. Definitions only.
use Rattle.std.specs.Prelude.{ℕ, ◌+◌, ◌*◌, ◌≤◌, ◌<◌, Bool, List, length, get_or}
use Rattle.tables.specs.Cases.{vertices_of, triangles_of, corner_of}
use Rattle.model.specs.declared.Triangle.{Triangle}
use Rattle.model.specs.Mesh.{sent}

-- a row of cell data that can be followed: it is long enough, and each corner is one of twelve
pub record Followed (row : List ℕ) : Type 0 where
  pub there : 3 * triangles_of row < length row
  pub few_vertices : vertices_of row ≤ 12
  pub few_triangles : triangles_of row ≤ 12
  pub corner_in_lem : (j : ℕ) → j < 3 * triangles_of row → corner_of row j < 12

-- the vertex index that corner j is sent as
abbrev pub row_index : List ℕ → Bool → List ℕ → ℕ → ℕ
row_index row turned index j = get_or index (corner_of row (sent turned j)) 0

unfoldable pub row_triangle : List ℕ → Bool → List ℕ → ℕ → Triangle
row_triangle row turned index t =
    record {
      a = row_index row turned index (3 * t);
      b = row_index row turned index (3 * t + 1);
      c = row_index row turned index (3 * t + 2);
    }
