-- The directed sides of a cell's triangles against what its six faces show, by the tables' rule T4. A face shows the same sides to the cells
-- on both sides of it, so that the sum over all cells comes down to what the block's outer faces show.
use Rattle.std.specs.Prelude.{◌≡◌, Bool, List, map, ℕ, suc, ◌+◌, ◌*◌, ◌/◌, ◌%◌, ◌^◌, ◌<◌, T, eqb, ltb}
use Rattle.std.proofs.Math.Path.{refl, ap₂}
use Rattle.std.proofs.Common.{ap, ◌∙◌, add-zero, add-one, eqb→eq, ltb→lt}
use native.Mathlib.Omega.{arith}
use Rattle.tables.specs.Codes.{point_a}
use Rattle.tables.specs.Cases.{regular_code, regular_corner, regular_triangles}
use Rattle.tables.specs.Corners.{bit, corner_x, corner_y, corner_z, axis_of, regular_used, regular_edges}
use Rattle.laws.specs.Tests.{both, both_left, both_right, then, then_holds, below, all, all₂}
use Rattle.laws.specs.Counting.{one, every, every_item, weighed}
use Rattle.tables.specs.Sides.{back, regular_sides, regular_sides_lem, far_ends, near_edge, near_side, far_edge, far_side, near_corner, near_bits, far_bits, spread, shown, nears, fars, inflow, outflow}
use Rattle.tables.proofs.RulesSides.{balanced}
use Rattle.model.specs.Star.{Star, subdivisions}
use Rattle.model.specs.Points.{corner_point, regular_case}
use Rattle.closed.specs.Clauses.{Edge, number, inside_at, run}
use Rattle.laws.specs.Sums.{Each, each_as, each_map, each_only, weighed_append, weighed_map, weighed_same, cube, border}
use Rattle.laws.proofs.Sums.{telescope_cube}
use Rattle.closed.specs.Places.{same_edge}
use Rattle.closed.specs.Cells.{case_small, case_bit, code_edge, same_point}
use Rattle.closed.specs.Weighing.{side_small, sides_below, weight_by, weighed_back}

-- one step in direction d, along the axis i
abbrev step : ℕ → ℕ → ℕ
step i d = one (eqb i d)

regroup : (x a u b : ℕ) → a ≡ b + u → x + a ≡ x + u + b
regroup x a u b e = omega arith

far_from : (d k m : ℕ) → m ≡ 17 * 2 ^ d → k % 256 + m < 256 → far_side d k / 256 ≡ k / 256 + m
unfolding far_side
far_from d k m e h = rw (← e) (omega arith)

far_to : (d k m : ℕ) → m ≡ 17 * 2 ^ d → k % 256 + m < 256 → far_side d k % 256 ≡ k % 256 + m
unfolding far_side
far_to d k m e h = rw (← e) (omega arith)

-- ---- a near edge, as the cell on its other side has it

record Moved (d e : ℕ) : Type 0 where
  small : e < 256
  far_small : far_edge d e < 256
  x_is : corner_x (point_a (far_edge d e)) ≡ corner_x (point_a e) + step 0 d
  y_is : corner_y (point_a (far_edge d e)) ≡ corner_y (point_a e) + step 1 d
  z_is : corner_z (point_a (far_edge d e)) ≡ corner_z (point_a e) + step 2 d
  axis_is : axis_of (far_edge d e) ≡ axis_of e

unfoldable moved_test : ℕ → ℕ → Bool
moved_test d e =
    then (near_edge d e)
    (both (ltb e 256)
    (both (ltb (far_edge d e) 256)
    (both (eqb (corner_x (point_a (far_edge d e))) (corner_x (point_a e) + step 0 d))
    (both (eqb (corner_y (point_a (far_edge d e))) (corner_y (point_a e) + step 1 d))
    (both (eqb (corner_z (point_a (far_edge d e))) (corner_z (point_a e) + step 2 d))
    (eqb (axis_of (far_edge d e)) (axis_of e)))))))

all_moved : T (below (λ d. every (moved_test d) regular_edges) 3)
unfolding bit regular_used regular_edges far_ends near_edge far_edge moved_test both then
all_moved = tt

moved : (d e : ℕ) → d < 3 → T (near_edge d e) → Moved d e
unfolding near_edge moved_test
moved d e hd t =
    let tests = all (λ d. every (moved_test d) regular_edges) 3 all_moved d hd in
    let t₀ = then_holds (near_edge d e) _ (every_item (moved_test d) regular_edges tests e (both_right _ _ t)) t in
    let t₁ = both_right _ _ t₀ in
    let t₂ = both_right _ _ t₁ in
    let t₃ = both_right _ _ t₂ in
    let t₄ = both_right _ _ t₃ in
    record {
      small = ltb→lt _ _ (both_left _ _ t₀);
      far_small = ltb→lt _ _ (both_left _ _ t₁);
      x_is = eqb→eq _ _ (both_left _ _ t₂);
      y_is = eqb→eq _ _ (both_left _ _ t₃);
      z_is = eqb→eq _ _ (both_left _ _ t₄);
      axis_is = eqb→eq _ _ (both_right _ _ t₄);
    }

edge_moved : (d x y z e : ℕ) → Moved d e → code_edge x y z (far_edge d e) ≡ code_edge (x + step 0 d) (y + step 1 d) (z + step 2 d) e
edge_moved d x y z e m =
    same_edge (regroup x _ _ _ m.x_is) (regroup y _ _ _ m.y_is) (regroup z _ _ _ m.z_is) m.axis_is

regular_below : (case : ℕ) → Each (λ k. k < 65536) (regular_sides case)
regular_below case = rw (regular_sides_lem case) (sides_below (λ j. regular_code case (regular_corner case j)) (regular_triangles case))

pub shown_near : (d bits : ℕ) → Each (λ k. (k < 65536) × T (near_side d k)) (shown d bits)
unfolding shown
shown_near d bits = each_only (λ k. k < 65536) (near_side d) _ (regular_below (spread d bits))

-- ---- what a side weighs in the cell (x, y, z): 1 if it runs from the grid edge g to h

unfoldable pub weight : Star → ℕ → ℕ → ℕ → ℕ → ℕ → ℕ → ℕ
weight s g h x y z = weight_by (λ p. number s (code_edge x y z p)) g h

module _ (d : ℕ) (hd : d < 3) where
  far_parts : (k : ℕ) → T (near_side d k) → (far_side d k / 256 ≡ far_edge d (k / 256)) × (far_side d k % 256 ≡ far_edge d (k % 256))
  unfolding near_side far_edge
  far_parts k t =
      let l = (moved d (k % 256) hd (both_right _ _ t)).far_small in
      (far_from d k (17 * 2 ^ d) refl l, far_to d k (17 * 2 ^ d) refl l)

  far_below : (k : ℕ) → T (near_side d k) → far_side d k < 65536
  unfolding near_side
  far_below k t = side_small (far_side d k) (rw (far_parts k t).0 (moved d (k / 256) hd (both_left _ _ t)).far_small)

  -- a side on the far face is one on the near face of the next cell
  far_weight : (s : Star) (g h x y z k : ℕ) → T (near_side d k)
      → weight s g h x y z (far_side d k) ≡ weight s g h (x + step 0 d) (y + step 1 d) (z + step 2 d) k
  unfolding weight near_side
  far_weight s g h x y z k t =
      let p = far_parts k t in
      let from = edge_moved d x y z (k / 256) (moved d (k / 256) hd (both_left _ _ t)) in
      let to = edge_moved d x y z (k % 256) (moved d (k % 256) hd (both_right _ _ t)) in
      ap₂ (λ (a b : ℕ). run g h (number s (code_edge x y z a)) (number s (code_edge x y z b))) p.0 p.1
      ∙ ap₂ (λ (a b : Edge). run g h (number s a) (number s b)) from to

-- ---- which of the four corners of the face at (x, y, z) across direction d are inside

unfoldable pub face_bits : Star → ℕ → ℕ → ℕ → ℕ → ℕ
face_bits s d x y z =
    inside_at s (corner_point x y z (near_corner d 0)) + 2 * inside_at s (corner_point x y z (near_corner d 1))
    + 4 * inside_at s (corner_point x y z (near_corner d 2)) + 8 * inside_at s (corner_point x y z (near_corner d 3))

record FaceCorner (d c : ℕ) : Type 0 where
  near_is : c < 8
  far_is : c + 2 ^ d < 8
  x_is : corner_x (c + 2 ^ d) ≡ corner_x c + step 0 d
  y_is : corner_y (c + 2 ^ d) ≡ corner_y c + step 1 d
  z_is : corner_z (c + 2 ^ d) ≡ corner_z c + step 2 d

unfoldable corner_test : ℕ → ℕ → Bool
corner_test d c =
    both (ltb c 8)
    (both (ltb (c + 2 ^ d) 8)
    (both (eqb (corner_x (c + 2 ^ d)) (corner_x c + step 0 d))
    (both (eqb (corner_y (c + 2 ^ d)) (corner_y c + step 1 d))
    (eqb (corner_z (c + 2 ^ d)) (corner_z c + step 2 d)))))

face_corners : T (below (λ d. below (λ j. corner_test d (near_corner d j)) 4) 3)
unfolding near_corner corner_test both
face_corners = tt

face_corner : (d j : ℕ) → d < 3 → j < 4 → FaceCorner d (near_corner d j)
unfolding corner_test
face_corner d j hd hj =
    let t = all₂ (λ d j. corner_test d (near_corner d j)) 3 4 face_corners d j hd hj in
    let t₁ = both_right _ _ t in
    let t₂ = both_right _ _ t₁ in
    let t₃ = both_right _ _ t₂ in
    record {
      near_is = ltb→lt _ _ (both_left _ _ t);
      far_is = ltb→lt _ _ (both_left _ _ t₁);
      x_is = eqb→eq _ _ (both_left _ _ t₂);
      y_is = eqb→eq _ _ (both_left _ _ t₃);
      z_is = eqb→eq _ _ (both_right _ _ t₃);
    }

module _ (s : Star) (x y z d : ℕ) (hd : d < 3) where
  near_corner_lem : (j : ℕ) → j < 4 → bit (regular_case s x y z) (near_corner d j) ≡ inside_at s (corner_point x y z (near_corner d j))
  near_corner_lem j hj = case_bit s x y z _ (face_corner d j hd hj).near_is

  far_corner : (j : ℕ) → j < 4 → bit (regular_case s x y z) (near_corner d j + 2 ^ d)
      ≡ inside_at s (corner_point (x + step 0 d) (y + step 1 d) (z + step 2 d) (near_corner d j))
  far_corner j hj =
      let c = face_corner d j hd hj in
      case_bit s x y z _ c.far_is
      ∙ ap (inside_at s) (same_point (regroup x _ _ _ c.x_is) (regroup y _ _ _ c.y_is) (regroup z _ _ _ c.z_is))

  near_bits_lem : near_bits d (regular_case s x y z) ≡ face_bits s d x y z
  unfolding near_bits face_bits
  near_bits_lem = rw (near_corner_lem 0 (omega arith), near_corner_lem 1 (omega arith), near_corner_lem 2 (omega arith), near_corner_lem 3 (omega arith))

  far_bits_lem : far_bits d (regular_case s x y z) ≡ face_bits s d (x + step 0 d) (y + step 1 d) (z + step 2 d)
  unfolding far_bits face_bits
  far_bits_lem = rw (far_corner 0 (omega arith), far_corner 1 (omega arith), far_corner 2 (omega arith), far_corner 3 (omega arith))

-- ---- the sides from g to h of a cell's triangles, and those that a face shows

module _ (s : Star) (g h : ℕ) where
  unfoldable pub cell_runs : ℕ → ℕ → ℕ → ℕ
  cell_runs x y z = weighed (weight s g h x y z) (regular_sides (regular_case s x y z))

  unfoldable pub face_runs : ℕ → ℕ → ℕ → ℕ → ℕ
  face_runs d x y z = weighed (weight s g h x y z) (shown d (face_bits s d x y z))

module _ (s : Star) (g h x y z : ℕ) where
  abbrev flow : List ℕ → ℕ
  flow ks = weighed (weight s g h x y z) ks

  flow_back : (ks : List ℕ) → Each (λ k. k < 65536) ks → flow (map back ks) ≡ weighed (weight s h g x y z) ks
  unfolding weight
  flow_back ks e = weighed_back (λ p. number s (code_edge x y z p)) g h ks e

  module _ (d : ℕ) (hd : d < 3) where
    near_forth : flow (nears d (regular_case s x y z)) ≡ face_runs s g h d x y z
    unfolding nears face_runs
    near_forth = rw (near_bits_lem s x y z d hd)

    far_forth : flow (fars d (regular_case s x y z)) ≡ face_runs s g h d (x + step 0 d) (y + step 1 d) (z + step 2 d)
    unfolding fars face_runs
    far_forth =
        let ks = shown d (face_bits s d (x + step 0 d) (y + step 1 d) (z + step 2 d)) in
        rw (far_bits_lem s x y z d hd)
        (weighed_map (weight s g h x y z) (far_side d) ks ∙ weighed_same _ _ (λ k p. far_weight d hd s g h x y z k p.1) ks (shown_near d _))

module _ (s : Star) (g h x y z : ℕ) where
  cell_back : flow s g h x y z (map back (regular_sides (regular_case s x y z))) ≡ cell_runs s h g x y z
  unfolding cell_runs
  cell_back = flow_back s g h x y z (regular_sides (regular_case s x y z)) (regular_below (regular_case s x y z))

  module _ (d : ℕ) (hd : d < 3) where
    near_back : flow s g h x y z (map back (nears d (regular_case s x y z))) ≡ face_runs s h g d x y z
    unfolding nears
    near_back =
        let ks = shown d (near_bits d (regular_case s x y z)) in
        flow_back s g h x y z ks (each_as (λ k p. p.0) ks (shown_near d _)) ∙ near_forth s h g x y z d hd

    far_back : flow s g h x y z (map back (fars d (regular_case s x y z))) ≡ face_runs s h g d (x + step 0 d) (y + step 1 d) (z + step 2 d)
    unfolding fars
    far_back =
        let ks = shown d (far_bits d (regular_case s x y z)) in
        flow_back s g h x y z (map (far_side d) ks) (each_map (λ k. k < 65536) (far_side d) (λ k p. far_below d hd k p.1) ks (shown_near d _))
        ∙ far_forth s h g x y z d hd

  cell_balanced : cell_runs s g h x y z + (face_runs s g h 0 (suc x) y z + face_runs s h g 0 x y z)
      + (face_runs s g h 1 x (suc y) z + face_runs s h g 1 x y z) + (face_runs s g h 2 x y (suc z) + face_runs s h g 2 x y z)
      ≡ cell_runs s h g x y z + (face_runs s h g 0 (suc x) y z + face_runs s g h 0 x y z)
      + (face_runs s h g 1 x (suc y) z + face_runs s g h 1 x y z) + (face_runs s h g 2 x y (suc z) + face_runs s g h 2 x y z)
  unfolding cell_runs inflow outflow
  cell_balanced =
      omega (
        arith,
        simp weighed_append at (balanced (weight s g h x y z) (regular_case s x y z) (case_small s x y z)),
        cell_back,
        near_forth s g h x y z 0 (omega arith),
        near_forth s g h x y z 1 (omega arith),
        near_forth s g h x y z 2 (omega arith),
        near_back 0 (omega arith),
        near_back 1 (omega arith),
        near_back 2 (omega arith),
        simp (add-zero, add-one) at (far_forth s g h x y z 0 (omega arith)),
        simp (add-zero, add-one) at (far_forth s g h x y z 1 (omega arith)),
        simp (add-zero, add-one) at (far_forth s g h x y z 2 (omega arith)),
        simp (add-zero, add-one) at (far_back 0 (omega arith)),
        simp (add-zero, add-one) at (far_back 1 (omega arith)),
        simp (add-zero, add-one) at (far_back 2 (omega arith)),
      )

-- over all cells, with the border's sums on both sides
pub block_balanced : (s : Star) (g h : ℕ)
    → cube (cell_runs s g h) (subdivisions s) + border (face_runs s g h) (face_runs s h g) (subdivisions s)
    ≡ cube (cell_runs s h g) (subdivisions s) + border (face_runs s h g) (face_runs s g h) (subdivisions s)
block_balanced s g h =
    telescope_cube (cell_runs s g h) (cell_runs s h g) (face_runs s g h) (face_runs s h g) (subdivisions s)
    (λ x y z hx hy hz. cell_balanced s g h x y z)
