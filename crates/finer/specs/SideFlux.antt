-- The directed sides of a transition cell's triangles, and those that its borders, its coarse face and its fine face show. Definitions only.
use Rattle.std.specs.Prelude.{◌≡◌, ℕ, ◌+◌, ◌*◌, ◌^◌, ◌<◌, eqb}
use Rattle.laws.specs.Steps.{total}
use Rattle.laws.specs.Counting.{one, only, weighed}
use Rattle.tables.specs.Codes.{point_a}
use Rattle.tables.specs.Corners.{axis_of}
use Rattle.tables.specs.Points.{point_u, point_v, point_face}
use Rattle.tables.specs.Sides.{side}
use Rattle.tables.specs.FinerSides.{transition_sides, high_edge, low_point, shown_low, shown_coarse, fine_side}
use Rattle.model.specs.Star.{Star}
use Rattle.model.specs.Points.{transition_case}
use Rattle.closed.specs.SideCells.{fine_inside}
use Rattle.closed.specs.Weighing.{weight_by}
use Rattle.finer.specs.Labels.{label_of}

-- how many cells along u or v (0, 1) the cell beyond the border across d lies
abbrev pub onward : ℕ → ℕ → ℕ
onward i d = one (eqb i d)

-- an edge of the low border, as the cell before it has it on its high border
pub record MovedEdge (d e : ℕ) : Type 0 where
  pub small : e < 256
  pub high_small : high_edge d e < 256
  pub face : point_face (point_a (high_edge d e)) ≡ point_face (point_a e)
  pub along : axis_of (high_edge d e) ≡ axis_of e
  pub a_u : point_u (point_a (high_edge d e)) ≡ point_u (point_a e) + 2 * onward 0 d
  pub a_v : point_v (point_a (high_edge d e)) ≡ point_v (point_a e) + 2 * onward 1 d

-- ---- which of a border's three points and of the coarse face's four corners are inside

unfoldable pub border_bits : Star → ℕ → ℕ → ℕ → ℕ → ℕ
border_bits s side d u v =
    let at : ℕ → ℕ = λ j. fine_inside s side (2 * u + point_u (low_point d j)) (2 * v + point_v (low_point d j)) in
    at 0 + 2 * at 1 + 4 * at 2

abbrev pub corner_inside : Star → ℕ → ℕ → ℕ → ℕ → ℕ
corner_inside s side u v j = fine_inside s side (2 * u + point_u (9 + j)) (2 * v + point_v (9 + j))

unfoldable pub coarse_bits : Star → ℕ → ℕ → ℕ → ℕ
coarse_bits s side u v = total (λ j. 2 ^ j * corner_inside s side u v j) 4

-- ---- the sides from g to h of a cell's triangles, and those that a border, the coarse face and the fine face show

module _ (s : Star) (side g h : ℕ) where
  abbrev pub weight : ℕ → ℕ → ℕ → ℕ
  weight u v = weight_by (label_of s side u v) g h

  unfoldable pub side_runs : ℕ → ℕ → ℕ
  side_runs u v = weighed (weight u v) (transition_sides (transition_case s side u v))

  unfoldable pub border_runs : ℕ → ℕ → ℕ → ℕ
  border_runs d u v = weighed (weight u v) (shown_low d (border_bits s side d u v))

  unfoldable pub coarse_runs : ℕ → ℕ → ℕ
  coarse_runs u v = weighed (weight u v) (shown_coarse (coarse_bits s side u v))

  unfoldable pub fine_runs : ℕ → ℕ → ℕ
  fine_runs u v = weighed (weight u v) (only fine_side (transition_sides (transition_case s side u v)))
