-- The sixteen edges of a transition cell, by their low bytes, and the labels of its codes: the tables' rules T5 and T6 over a side.
use Rattle.std.specs.Prelude.{◌≡◌, ◌⊎◌, Bool, ℕ, zero, suc, ◌+◌, ◌-◌, ◌*◌, ◌/◌, ◌≤◌, ◌<◌, T, eqb, leb, ltb}
use Rattle.std.proofs.Math.Path.{refl}
use Rattle.std.proofs.Common.{sym, ap₂, ◌∙◌, inl, inr, ⊎_elim, arith, eqb→eq, leb→le, ltb→lt, T_not}
use Rattle.laws.specs.Tests.{eq→eqb, both, both_left, both_right, then, then_holds, below, all}
use Rattle.laws.specs.Counting.{one, has, every, every_item}
use Rattle.tables.specs.Codes.{point_a, point_b, step_x, step_y, is_new, reuse_index, edge_of}
use Rattle.tables.specs.Corners.{axis_of}
use Rattle.tables.specs.Points.{point_u, point_v, point_face}
use Rattle.tables.specs.RulesTransition.{transition_used, transition_edges}
use Rattle.tables.specs.RulesBorder.{transition_new_code, kept}
use Rattle.tables.proofs.RulesBorder.{transition_used_right}
use Rattle.tables.specs.FinerSides.{fine_edge, coarse_edge}
use Rattle.model.specs.Star.{Star}
use Rattle.closed.specs.Clauses.{number}
use Rattle.closed.specs.Cells.{byte_points}
use Rattle.finer.specs.Labels.{face_edge, fine_number, label_at, label_of}
use Rattle.finer.specs.Clauses.{InSquare, OfSideCell}

-- ---- the edges

-- from a to b one step of the edge's face along its axis, within the cell
pub record EdgeRight (e : ℕ) : Type 0 where
  pub small : e < 256
  pub axis_in : axis_of e < 2
  pub face_in : point_face (point_a e) ≤ 1
  pub b_face : point_face (point_b e) ≡ point_face (point_a e)
  pub b_u : point_u (point_b e) ≡ point_u (point_a e) + (1 + point_face (point_a e)) * one (eqb (axis_of e) 0)
  pub b_v : point_v (point_b e) ≡ point_v (point_a e) + (1 + point_face (point_a e)) * one (eqb (axis_of e) 1)
  pub u_in : point_u (point_b e) ≤ 2
  pub v_in : point_v (point_b e) ≤ 2

unfoldable edge_test : ℕ → Bool
edge_test e =
    both (both (ltb e 256) (both (ltb (axis_of e) 2) (leb (point_face (point_a e)) 1)))
    (both (eqb (point_face (point_b e)) (point_face (point_a e)))
    (both (both (eqb (point_u (point_b e)) (point_u (point_a e) + (1 + point_face (point_a e)) * one (eqb (axis_of e) 0))) (leb (point_u (point_b e)) 2))
    (both (eqb (point_v (point_b e)) (point_v (point_a e) + (1 + point_face (point_a e)) * one (eqb (axis_of e) 1))) (leb (point_v (point_b e)) 2))))

edges_right : T (every edge_test transition_edges)
unfolding transition_edges point_u point_v point_face edge_test both
edges_right = tt

pub edge_right : (e : ℕ) → T (has e transition_edges) → EdgeRight e
unfolding edge_test
edge_right e h =
    let t = every_item edge_test transition_edges edges_right e h in
    let small = both_left _ _ t in
    let t₁ = both_right _ _ t in
    let along_u = both_left _ _ (both_right _ _ t₁) in
    let along_v = both_right _ _ (both_right _ _ t₁) in
    record {
      small = ltb→lt _ _ (both_left _ _ small);
      axis_in = ltb→lt _ _ (both_left _ _ (both_right _ _ small));
      face_in = leb→le _ _ (both_right _ _ (both_right _ _ small));
      b_face = eqb→eq _ _ (both_left _ _ t₁);
      b_u = eqb→eq _ _ (both_left _ _ along_u);
      b_v = eqb→eq _ _ (both_left _ _ along_v);
      u_in = leb→le _ _ (both_right _ _ along_u);
      v_in = leb→le _ _ (both_right _ _ along_v);
    }

-- a test of each edge, or of each two, for both directions d
module _ (d : ℕ) (hd : d < 2) where
  pub edge_told : (test : ℕ → ℕ → Bool) → T (below (λ d. every (test d) transition_edges) 2) → (e : ℕ) → T (has e transition_edges) → T (test d e)
  edge_told test t e h = every_item (test d) transition_edges (all (λ d. every (test d) transition_edges) 2 t d hd) e h

  pub edges_told : (test : ℕ → ℕ → ℕ → Bool) → T (below (λ d. every (λ p. every (test d p) transition_edges) transition_edges) 2)
      → (p q : ℕ) → T (has p transition_edges) → T (has q transition_edges) → T (test d p q)
  edges_told test t p q hp hq =
      every_item (test d p) transition_edges (edge_told (λ d p. every (test d p) transition_edges) t p hp) q hq

-- an edge lies on the fine face or on the coarse one
abbrev pub IsFine : ℕ → Type 0
IsFine e = point_face (point_a e) ≡ 0

abbrev pub IsCoarse : ℕ → Type 0
IsCoarse e = point_face (point_a e) ≡ 1

pub fine_or_coarse : (e : ℕ) → point_face (point_a e) ≤ 1 → IsFine e ⊎ IsCoarse e
fine_or_coarse e h = go (point_face (point_a e)) h
  where
    go : (k : ℕ) → k ≤ 1 → (k ≡ 0) ⊎ (k ≡ 1)
    go zero h = inl refl
    go (suc zero) h = inr refl
    go (suc (suc k)) h = absurd (omega arith)

pub is_fine : (e : ℕ) → T (fine_edge e) → IsFine e
unfolding fine_edge
is_fine e t = eqb→eq _ _ t

pub is_coarse : (e : ℕ) → T (coarse_edge e) → T (has e transition_edges) × IsCoarse e
unfolding fine_edge coarse_edge
is_coarse e t =
    let h = both_right _ _ t in
    (h, ⊎_elim (λ f. absurd (T_not (fine_edge e) (both_left _ _ t) (eq→eqb _ _ f))) (λ c. c) (fine_or_coarse e (edge_right e h).face_in))

-- an edge in a square, by the steps from the square's lowest corner to its first point
in_square : (k a b p q axis : ℕ) → axis < 2 → p + one (eqb axis 0) ≤ k → q + one (eqb axis 1) ≤ k → InSquare k a b (a + p) (b + q) axis
in_square k a b p q axis h hp hq =
    record { axis_is = h; low_u = omega arith; low_v = omega arith; high_u = omega arith; high_v = omega arith }

-- where an edge of the fine face ends, and one of the coarse face
fine_end : (a b k : ℕ) → b ≡ a + (1 + 0) * k → b ≤ 2 → a + k ≤ 2
fine_end a b k e h = omega arith

coarse_end : (a b k : ℕ) → b ≡ a + (1 + 1) * k → b ≤ 2 → a / 2 + k ≤ 1
coarse_end a b k e h = omega arith

-- ---- labels

module _ (s : Star) (side u v : ℕ) where
  -- a code's low byte has its label
  pub byte_label : (code : ℕ) → label_of s side u v (edge_of code) ≡ label_of s side u v code
  byte_label code = let p = byte_points code in rw (p.0, p.1)

  module _ (e : ℕ) where
    pub fine_label : IsFine e → label_of s side u v e ≡ fine_number s side (2 * u + point_u (point_a e)) (2 * v + point_v (point_a e)) (axis_of e)
    unfolding label_at
    fine_label f = rw f refl

    pub coarse_label : IsCoarse e → label_of s side u v e ≡ number s (face_edge s side (u + point_u (point_a e) / 2) (v + point_v (point_a e) / 2) (axis_of e))
    unfolding label_at
    coarse_label c = rw c refl

  -- its edge lies in the cell
  module _ (e : ℕ) (r : EdgeRight e) where
    pub fine_within : IsFine e → InSquare 2 (2 * u) (2 * v) (2 * u + point_u (point_a e)) (2 * v + point_v (point_a e)) (axis_of e)
    fine_within f =
        in_square 2 _ _ _ _ (axis_of e) r.axis_in (fine_end _ _ _ (rw f at r.b_u) r.u_in) (fine_end _ _ _ (rw f at r.b_v) r.v_in)

    coarse_within : IsCoarse e → InSquare 1 u v (u + point_u (point_a e) / 2) (v + point_v (point_a e) / 2) (axis_of e)
    coarse_within c =
        in_square 1 _ _ _ _ (axis_of e) r.axis_in (coarse_end _ _ _ (rw c at r.b_u) r.u_in) (coarse_end _ _ _ (rw c at r.b_v) r.v_in)

    pub own_edge : OfSideCell s side u v (label_of s side u v e)
    own_edge =
        ⊎_elim
        (λ f. inl (record { u2 = _; v2 = _; axis = _; within = fine_within f; label_is = fine_label e f }))
        (λ c. inr (record { u = _; v = _; axis = _; within = coarse_within c; label_is = coarse_label e c }))
        (fine_or_coarse e r.face_in)

-- a point some cells on is the same point of a cell as many cells before
pub fine_on : (u a b k : ℕ) → b ≡ a + 2 * k → 2 * u + b ≡ 2 * (u + k) + a
fine_on u a b k e = omega arith

coarse_on : (u a b k : ℕ) → b ≡ a + 2 * k → u + b / 2 ≡ u + k + a / 2
coarse_on u a b k e = omega arith

pub label_on : (s : Star) (side u v i j face a b a' b' axis : ℕ) → a' ≡ a + 2 * i → b' ≡ b + 2 * j
    → label_at s side u v face a' b' axis ≡ label_at s side (u + i) (v + j) face a b axis
unfolding label_at
label_on s side u v i j face a b a' b' axis p q = rw (fine_on u a a' i p, fine_on v b b' j q, coarse_on u a a' i p, coarse_on v b b' j q)

-- ---- the codes

pub record SlotRight (code : ℕ) : Type 0 where
  pub is_new_lem : is_new code ≡ 1 → code ≡ transition_new_code (reuse_index code)
  pub along : kept code ≡ 1 → axis_of code ≡ axis_of (transition_new_code (reuse_index code))

unfoldable slot_test : ℕ → Bool
slot_test code =
    both (then (eqb (is_new code) 1) (eqb code (transition_new_code (reuse_index code))))
    (then (eqb (kept code) 1) (eqb (axis_of code) (axis_of (transition_new_code (reuse_index code)))))

slots_right : T (every slot_test transition_used)
unfolding transition_used transition_new_code both then slot_test
slots_right = tt

pub slot_right : (code : ℕ) → T (has code transition_used) → SlotRight code
unfolding slot_test
slot_right code h =
    let t = every_item slot_test transition_used slots_right code h in
    record {
      is_new_lem = λ e. eqb→eq _ _ (then_holds (eqb (is_new code) 1) _ (both_left _ _ t) (eq→eqb _ _ e));
      along = λ e. eqb→eq _ _ (then_holds (eqb (kept code) 1) _ (both_right _ _ t) (eq→eqb _ _ e));
    }

back_again : (u k : ℕ) → k ≤ u → u - k + k ≡ u
back_again u k h = omega arith

-- a code that is kept has the label of the slot of the cell that it steps to
pub slot_label : (s : Star) (side u v code : ℕ) → T (has code transition_used) → kept code ≡ 1 → step_x code ≤ u → step_y code ≤ v
    → label_of s side u v code ≡ label_of s side (u - step_x code) (v - step_y code) (transition_new_code (reuse_index code))
slot_label s side u v code used keep hu hv =
    let new = transition_new_code (reuse_index code) in
    let same = ((transition_used_right code used).slot keep).1 in
    let a = point_a code in
    sym
    (label_on s side _ _ (step_x code) (step_y code) (point_face (point_a new)) (point_u a) (point_v a) _ _ (axis_of new) (sym same.a.u) (sym same.a.v)
    ∙ ap₂ (λ (x y : ℕ). label_at s side x y (point_face (point_a new)) (point_u a) (point_v a) (axis_of new)) (back_again u _ hu) (back_again v _ hv)
    ∙ ap₂ (λ (f x : ℕ). label_at s side u v f (point_u a) (point_v a) x) (sym same.a.face) (sym ((slot_right code used).along keep)))
