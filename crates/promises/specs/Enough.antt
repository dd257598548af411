-- Room that is enough for the mesh of any block of n subdivisions with these finer neighbours, whatever the samples are. Definitions only.
use Rattle.std.specs.Prelude.{ℕ, ◌+◌, ◌-◌, ◌*◌, ◌≤◌}
use Rattle.std.specs.Int.Count.{ones}
use Rattle.model.specs.Star.{Star, subdivisions}
use Rattle.promises.specs.Left.{counts}

-- three vertices a regular cell, and at one, two and three of the block's low faces seven, ten and twelve; a transition cell eight, and at one and both of its
-- side's low borders ten and twelve. Added over the cells of a block, and of so many sides
abbrev pub enough_vertices : ℕ → ℕ → ℕ
enough_vertices n mask = 3 * (n * (n * n + 4 * n - 1)) + ones mask * (4 * (n * (2 * n + 1)))

-- five triangles a regular cell, twelve a transition cell
abbrev pub enough_triangles : ℕ → ℕ → ℕ
enough_triangles n mask = 5 * (n * n * n) + ones mask * (12 * (n * n))

pub record Enough (s : Star) : Type 0 where
  pub vertices : (counts s).vertices ≤ enough_vertices (subdivisions s) s.mask
  pub triangles : (counts s).triangles ≤ enough_triangles (subdivisions s) s.mask
