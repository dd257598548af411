-- Sums over the cells of a block, and the triangles of each. Definitions only.
use Rattle.std.specs.Prelude.{ℕ, ◌+◌, cond}
use Rattle.tables.specs.Cases.{regular_triangles, transition_triangles}
use Rattle.laws.specs.Steps.{total}
use Rattle.laws.specs.Sums.{square, cube}
use Rattle.model.specs.Limits.{side_count}
use Rattle.model.specs.Sides.{named}
use Rattle.model.specs.Star.{Star, subdivisions}
use Rattle.model.specs.Points.{regular_case, transition_case}

-- over the cells of a side, if it is named, and over all cells of a block
abbrev pub over_side : Star → (ℕ → ℕ → ℕ → ℕ) → ℕ → ℕ
over_side s transition side = cond (named s.mask side) (square (transition side) (subdivisions s)) 0

abbrev pub over_cells : Star → (ℕ → ℕ → ℕ → ℕ) → (ℕ → ℕ → ℕ → ℕ) → ℕ
over_cells s regular transition = cube regular (subdivisions s) + total (over_side s transition) side_count

-- of a regular cell and of a transition cell, by the case number
abbrev pub triangles_at : Star → ℕ → ℕ → ℕ → ℕ
triangles_at s x y z = regular_triangles (regular_case s x y z)

abbrev pub triangles_on_side : Star → ℕ → ℕ → ℕ → ℕ
triangles_on_side s side u v = transition_triangles (transition_case s side u v)
