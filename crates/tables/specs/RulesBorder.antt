-- The words that T6 is stated in. The rules themselves stand in proofs/RulesBorder.
use Rattle.std.specs.Prelude.{◌≡◌, Bool, not, [], ◌∷◌, ℕ, ◌+◌, ◌*◌, ◌≤◌, ◌<◌, eqb, get_or}
use Rattle.tables.specs.Codes.{point_a, point_b, step_x, step_y, is_new, reuse_index}
use Rattle.laws.specs.Tests.{both, either}
use Rattle.tables.specs.Points.{point_u, point_v, point_face}

-- ---- a border edge is listed exactly if it crosses

-- from p to the next point q of its face, along a border: the place across is 0 or 2 for both
unfoldable pub along : ℕ → ℕ → ℕ → ℕ → ℕ → Bool
along width acrossP acrossQ alongP alongQ = both (eqb acrossP acrossQ) (both (not (eqb acrossP 1)) (eqb alongQ (alongP + width)))

-- neighbouring points are 1 apart on the fine face and 2 on the coarse one
unfoldable pub border_edge : ℕ → ℕ → Bool
border_edge p q =
    both (eqb (point_face p) (point_face q))
    (either (along (1 + point_face p) (point_u p) (point_u q) (point_v p) (point_v q))
    (along (1 + point_face p) (point_v p) (point_v q) (point_u p) (point_u q)))

-- ---- steps and slots

-- the new and stored code of each reuse index that has one: all on the high border
unfoldable pub transition_new_code : ℕ → ℕ
transition_new_code r = get_or (0 ∷ 0 ∷ 0 ∷ 0x8367 ∷ 0x8478 ∷ 0x8525 ∷ 0x8658 ∷ 0 ∷ 0x88BC ∷ 0x89AC ∷ []) r 0

-- 1 if a code is new and stored or takes a stored vertex, 0 if it is new and not stored
abbrev pub kept : ℕ → ℕ
kept code = is_new code + step_x code + step_y code

-- the point p, moved by the steps of a cell's width, is the point q of the same face
pub record Moved (stepU stepV p q : ℕ) : Type 0 where
  pub u : point_u p + 2 * stepU ≡ point_u q
  pub v : point_v p + 2 * stepV ≡ point_v q
  pub face : point_face p ≡ point_face q

-- the edge of `code`, seen from the cell that it steps to, is the edge of `high`
pub record SameEdge (code high : ℕ) : Type 0 where
  pub a : Moved (step_x code) (step_y code) (point_a code) (point_a high)
  pub b : Moved (step_x code) (step_y code) (point_b code) (point_b high)

pub record NewWith (index code : ℕ) : Type 0 where
  pub new : is_new code ≡ 1
  pub same_index : reuse_index code ≡ index

pub record TransitionCode (code : ℕ) : Type 0 where
  pub a_small : point_a code < 13
  pub b_small : point_b code < 13
  pub index_small : reuse_index code < 10
  pub one_way : kept code ≤ 1
  pub low_u : step_x code ≡ 1 → (point_u (point_a code) ≡ 0) × (point_u (point_b code) ≡ 0)
  pub low_v : step_y code ≡ 1 → (point_v (point_a code) ≡ 0) × (point_v (point_b code) ≡ 0)
  -- the slot of a code that is kept: the edge of the new code with its index
  pub slot : kept code ≡ 1 → NewWith (reuse_index code) (transition_new_code (reuse_index code)) × SameEdge code (transition_new_code (reuse_index code))
