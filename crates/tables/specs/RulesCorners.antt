-- The words that T3 is stated in. The rules themselves stand in proofs/RulesCorners.
use Rattle.std.specs.Prelude.{ℕ, ◌*◌, ◌<◌, ◌≤◌}

-- a row of cell data: at most twelve vertices, at most `most` triangles, each corner below the vertex count
pub record CellRight (most vertices triangles : ℕ) (corner : ℕ → ℕ) : Type 0 where
  pub vertices_most : vertices ≤ 12
  pub triangles_most : triangles ≤ most
  pub corner_below : (j : ℕ) → j < 3 * triangles → corner j < vertices
