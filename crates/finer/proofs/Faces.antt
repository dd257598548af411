-- The coarse face of a transition cell is a face of the grid: where it lies, which way it is laid on the near face there, its four corners and its four
-- edges as the regular cells have them.
use Rattle.std.specs.Prelude.{◌≡◌, Bool, true, false, cond, ℕ, zero, suc, ◌+◌, ◌-◌, ◌*◌, ◌/◌, ◌%◌, ◌^◌, ◌<◌, T, eqb, ltb}
use Rattle.std.proofs.Common.{sym, ap, ap₂, ◌∙◌, arith, eqb→eq, ltb→lt}
use Rattle.laws.specs.Steps.{total}
use Rattle.laws.specs.Tests.{both, both_left, both_right, then, then_holds, below, all, all₂}
use Rattle.laws.specs.Counting.{one, has, every, every_item}
use Rattle.tables.specs.Codes.{point_a, point_b}
use Rattle.tables.specs.Corners.{bit, corner_x, corner_y, corner_z, axis_of, regular_edges}
use Rattle.tables.specs.Points.{point_u, point_v, point_face}
use Rattle.tables.specs.RulesTransition.{transition_edges}
use Rattle.tables.specs.Sides.{far_ends, near_edge, near_corner}
use Rattle.tables.specs.FinerSides.{fine_edge, coarse_edge, laid_on, edge_between as byteBetween, laid_edge, mirrored}
use Rattle.model.specs.declared.Xyz.{Xyz}
use Rattle.model.specs.declared.Vertex.{Vertex}
use Rattle.model.specs.Limits.{side_count}
use Rattle.model.specs.Rotations.{xyz, point_from, rotation_of, rotations}
use Rattle.model.specs.Formulas.{vertex_between}
use Rattle.model.specs.Star.{Star, subdivisions}
use Rattle.model.specs.Points.{corner_point, regular_point}
use Rattle.closed.specs.Clauses.{Edge, high, number, edges_most, OfBlock, part, vertex_on}
use Rattle.closed.specs.Places.{same_edge, number_pairs, pair_in}
use Rattle.closed.specs.Cells.{code_edge, same_point, byte_own, byte_high}
use Rattle.closed.specs.Outer.{IsFace, face_of_block, near_in_face}
use Rattle.finer.specs.Labels.{lower, apart, edge_between, coarse_point, face_edge}
use Rattle.finer.specs.Clauses.{InSide, vertex_back, runs_down}
use Rattle.finer.specs.SideLabels.{is_coarse}

-- ---- where it lies

-- the lowest corner of the coarse face of the cell (u, v) of each side
unfoldable pub face_at : ℕ → ℕ → ℕ → ℕ → Xyz
face_at n zero u v = xyz 0 v (n - suc u)
face_at n (suc zero) u v = xyz n v u
face_at n (suc (suc zero)) u v = xyz u 0 (n - suc v)
face_at n (suc (suc (suc zero))) u v = xyz u n v
face_at n (suc (suc (suc (suc zero)))) u v = xyz u v 0
face_at n (suc (suc (suc (suc (suc side))))) u v = xyz (n - suc u) v n

abbrev pub corner_of : Xyz → ℕ → Xyz
corner_of p k = corner_point p.x p.y p.z k

pub is_face : (s : Star) (side u v : ℕ) → side < side_count → u < subdivisions s → v < subdivisions s
    → let p = face_at (subdivisions s) side u v in IsFace s (side / 2) p.x p.y p.z
unfolding face_at
is_face s zero u v hs hu hv = record { x_in = omega arith; y_in = omega arith; z_in = omega arith }
is_face s (suc zero) u v hs hu hv = record { x_in = omega arith; y_in = omega arith; z_in = omega arith }
is_face s (suc (suc zero)) u v hs hu hv = record { x_in = omega arith; y_in = omega arith; z_in = omega arith }
is_face s (suc (suc (suc zero))) u v hs hu hv = record { x_in = omega arith; y_in = omega arith; z_in = omega arith }
is_face s (suc (suc (suc (suc zero)))) u v hs hu hv = record { x_in = omega arith; y_in = omega arith; z_in = omega arith }
is_face s (suc (suc (suc (suc (suc zero))))) u v hs hu hv = record { x_in = omega arith; y_in = omega arith; z_in = omega arith }
is_face s (suc (suc (suc (suc (suc (suc side)))))) u v hs hu hv = absurd (omega arith)

pub part_is : (n side u v : ℕ) → side < side_count → part (side / 2) (face_at n side u v) ≡ side % 2 * n
unfolding face_at
part_is n zero u v hs = omega arith
part_is n (suc zero) u v hs = omega arith
part_is n (suc (suc zero)) u v hs = omega arith
part_is n (suc (suc (suc zero))) u v hs = omega arith
part_is n (suc (suc (suc (suc zero)))) u v hs = omega arith
part_is n (suc (suc (suc (suc (suc zero))))) u v hs = omega arith
part_is n (suc (suc (suc (suc (suc (suc side)))))) u v hs = absurd (omega arith)

-- ---- which way it is laid, by a block of one cell

abbrev corner_number : Xyz → ℕ
corner_number p = p.x + 2 * p.y + 4 * p.z

unfoldable fits_way : ℕ → ℕ → Bool
fits_way side p = below (λ j. eqb (near_corner (side / 2) (laid_on p j) + side % 2 * 2 ^ (side / 2)) (corner_number (coarse_point 1 side (j % 2) (j / 2)))) 4

unfoldable pub way_of : ℕ → ℕ
unfolding bit point_from rotation_of rotations near_corner laid_on both fits_way
way_of side = total (λ p. p * one (fits_way side p)) 8

-- the corner of the near face, as a corner of its cell, on which the coarse corner j lies
abbrev pub corner_at : ℕ → ℕ → ℕ
corner_at side j = near_corner (side / 2) (laid_on (way_of side) j)

pub record WayRight (side : ℕ) : Type 0 where
  pub small : way_of side < 8
  pub handed : mirrored (side / 2) (way_of side) ≡ side % 2

unfoldable way_test : ℕ → Bool
way_test side = both (ltb (way_of side) 8) (eqb (mirrored (side / 2) (way_of side)) (side % 2))

ways_right : T (below way_test side_count)
unfolding way_of way_test mirrored
ways_right = tt

pub way_right : (side : ℕ) → side < side_count → WayRight side
unfolding way_test
way_right side h =
    let t = all way_test side_count ways_right side h in
    record { small = ltb→lt _ _ (both_left _ _ t); handed = eqb→eq _ _ (both_right _ _ t) }

-- ---- its corners

record CornerRight (side j : ℕ) : Type 0 where
  x_is : (coarse_point 1 side (j % 2) (j / 2)).x ≡ (face_at 1 side 0 0).x + corner_x (corner_at side j)
  y_is : (coarse_point 1 side (j % 2) (j / 2)).y ≡ (face_at 1 side 0 0).y + corner_y (corner_at side j)
  z_is : (coarse_point 1 side (j % 2) (j / 2)).z ≡ (face_at 1 side 0 0).z + corner_z (corner_at side j)

unfoldable corner_test : ℕ → ℕ → Bool
corner_test side j =
    both (eqb (coarse_point 1 side (j % 2) (j / 2)).x ((face_at 1 side 0 0).x + corner_x (corner_at side j)))
    (both (eqb (coarse_point 1 side (j % 2) (j / 2)).y ((face_at 1 side 0 0).y + corner_y (corner_at side j)))
    (eqb (coarse_point 1 side (j % 2) (j / 2)).z ((face_at 1 side 0 0).z + corner_z (corner_at side j))))

corners_right : T (below (λ side. below (corner_test side) 4) side_count)
unfolding way_of face_at corner_test
corners_right = tt

corner_right : (side j : ℕ) → side < side_count → j < 4 → CornerRight side j
unfolding corner_test
corner_right side j hs hj =
    let t = all₂ corner_test side_count 4 corners_right side j hs hj in
    let t₁ = both_right _ _ t in
    record { x_is = eqb→eq _ _ (both_left _ _ t); y_is = eqb→eq _ _ (both_left _ _ t₁); z_is = eqb→eq _ _ (both_right _ _ t₁) }

-- in a block of any size, for any cell
any_corner : (n side u v j : ℕ) → side < side_count → j < 4 → u < n → v < n → CornerRight side j
    → coarse_point n side (u + j % 2) (v + j / 2) ≡ corner_of (face_at n side u v) (corner_at side j)
unfolding face_at point_from rotation_of rotations
any_corner n zero u v j hs hj hu hv r = same_point (omega arith) (omega arith) (omega arith)
any_corner n (suc zero) u v j hs hj hu hv r = same_point (omega arith) (omega arith) (omega arith)
any_corner n (suc (suc zero)) u v j hs hj hu hv r = same_point (omega arith) (omega arith) (omega arith)
any_corner n (suc (suc (suc zero))) u v j hs hj hu hv r = same_point (omega arith) (omega arith) (omega arith)
any_corner n (suc (suc (suc (suc zero)))) u v j hs hj hu hv r = same_point (omega arith) (omega arith) (omega arith)
any_corner n (suc (suc (suc (suc (suc zero))))) u v j hs hj hu hv r = same_point (omega arith) (omega arith) (omega arith)
any_corner n (suc (suc (suc (suc (suc (suc side)))))) u v j hs hj hu hv r = absurd (omega arith)

pub corner_at_lem : (n side u v j : ℕ) → side < side_count → j < 4 → u < n → v < n
    → coarse_point n side (u + j % 2) (v + j / 2) ≡ corner_of (face_at n side u v) (corner_at side j)
corner_at_lem n side u v j hs hj hu hv = any_corner n side u v j hs hj hu hv (corner_right side j hs hj)

-- ---- its edges

-- the ends of a coarse edge among the four corners
pub record EndsRight (e : ℕ) : Type 0 where
  pub a_in : point_a e - 9 < 4
  pub b_in : point_b e - 9 < 4
  pub a_u : point_u (point_a e) / 2 ≡ (point_a e - 9) % 2
  pub a_v : point_v (point_a e) / 2 ≡ (point_a e - 9) / 2
  pub b_u : point_u (point_a e) / 2 + one (eqb (axis_of e) 0) ≡ (point_b e - 9) % 2
  pub b_v : point_v (point_a e) / 2 + one (eqb (axis_of e) 1) ≡ (point_b e - 9) / 2

unfoldable ends_test : ℕ → Bool
ends_test e =
    then (coarse_edge e)
    (both (both (ltb (point_a e - 9) 4) (ltb (point_b e - 9) 4))
    (both (both (eqb (point_u (point_a e) / 2) ((point_a e - 9) % 2)) (eqb (point_v (point_a e) / 2) ((point_a e - 9) / 2)))
    (both (eqb (point_u (point_a e) / 2 + one (eqb (axis_of e) 0)) ((point_b e - 9) % 2)) (eqb (point_v (point_a e) / 2 + one (eqb (axis_of e) 1)) ((point_b e - 9) / 2)))))

all_ends : T (every ends_test transition_edges)
unfolding transition_edges point_u point_v point_face fine_edge coarse_edge both then ends_test
all_ends = tt

ends_right : (e : ℕ) → T (coarse_edge e) → EndsRight e
unfolding ends_test
ends_right e c =
    let t = then_holds (coarse_edge e) _ (every_item ends_test transition_edges all_ends e (is_coarse e c).0) c in
    let small = both_left _ _ t in
    let a = both_left _ _ (both_right _ _ t) in
    let b = both_right _ _ (both_right _ _ t) in
    record {
      a_in = ltb→lt _ _ (both_left _ _ small);
      b_in = ltb→lt _ _ (both_right _ _ small);
      a_u = eqb→eq _ _ (both_left _ _ a);
      a_v = eqb→eq _ _ (both_right _ _ a);
      b_u = eqb→eq _ _ (both_left _ _ b);
      b_v = eqb→eq _ _ (both_right _ _ b);
    }

-- the edge of the near face that a coarse edge lies on
abbrev pub byte_at : ℕ → ℕ → ℕ
byte_at side e = laid_edge (side / 2) (way_of side) e

record ByteRight (side e : ℕ) : Type 0 where
  small : byte_at side e < 256
  near : T (near_edge (side / 2) (byte_at side e))
  x_is : lower (corner_x (corner_at side (point_a e - 9))) (corner_x (corner_at side (point_b e - 9))) ≡ corner_x (point_a (byte_at side e))
  y_is : lower (corner_y (corner_at side (point_a e - 9))) (corner_y (corner_at side (point_b e - 9))) ≡ corner_y (point_a (byte_at side e))
  z_is : lower (corner_z (corner_at side (point_a e - 9))) (corner_z (corner_at side (point_b e - 9))) ≡ corner_z (point_a (byte_at side e))
  axis_is : apart (corner_y (corner_at side (point_a e - 9))) (corner_y (corner_at side (point_b e - 9)))
      + 2 * apart (corner_z (corner_at side (point_a e - 9))) (corner_z (corner_at side (point_b e - 9))) ≡ axis_of (byte_at side e)
  -- it is worked out from its low end, but where the side runs down along it
  first_is : cond (runs_down side (axis_of (byte_at side e))) (point_b (byte_at side e)) (point_a (byte_at side e)) ≡ corner_at side (point_a e - 9)
  second_is : cond (runs_down side (axis_of (byte_at side e))) (point_a (byte_at side e)) (point_b (byte_at side e)) ≡ corner_at side (point_b e - 9)

unfoldable byte_test : ℕ → ℕ → Bool
byte_test side e =
    let a = corner_at side (point_a e - 9) in
    let b = corner_at side (point_b e - 9) in
    let k = byte_at side e in
    then (coarse_edge e)
    (both (both (ltb k 256) (near_edge (side / 2) k))
    (both (both (eqb (lower (corner_x a) (corner_x b)) (corner_x (point_a k))) (eqb (lower (corner_y a) (corner_y b)) (corner_y (point_a k))))
    (both
    (both (eqb (lower (corner_z a) (corner_z b)) (corner_z (point_a k))) (eqb (apart (corner_y a) (corner_y b) + 2 * apart (corner_z a) (corner_z b)) (axis_of k)))
    (both (eqb (cond (runs_down side (axis_of k)) (point_b k) (point_a k)) a) (eqb (cond (runs_down side (axis_of k)) (point_a k) (point_b k)) b)))))

bytes_right : T (below (λ side. every (byte_test side) transition_edges) side_count)
unfolding transition_edges point_face regular_edges far_ends near_edge fine_edge coarse_edge byteBetween laid_edge way_of runs_down then byte_test
bytes_right = tt

byte_right : (side e : ℕ) → side < side_count → T (coarse_edge e) → ByteRight side e
unfolding byte_test
byte_right side e hs c =
    let tests = all (λ side. every (byte_test side) transition_edges) side_count bytes_right side hs in
    let t = then_holds (coarse_edge e) _ (every_item (byte_test side) transition_edges tests e (is_coarse e c).0) c in
    let t₁ = both_right _ _ t in
    let t₂ = both_right _ _ t₁ in
    let ends = both_right _ _ t₂ in
    record {
      small = ltb→lt _ _ (both_left _ _ (both_left _ _ t));
      near = both_right _ _ (both_left _ _ t);
      x_is = eqb→eq _ _ (both_left _ _ (both_left _ _ t₁));
      y_is = eqb→eq _ _ (both_right _ _ (both_left _ _ t₁));
      z_is = eqb→eq _ _ (both_left _ _ (both_left _ _ t₂));
      axis_is = eqb→eq _ _ (both_right _ _ (both_left _ _ t₂));
      first_is = eqb→eq _ _ (both_left _ _ ends);
      second_is = eqb→eq _ _ (both_right _ _ ends);
    }

lower_on : (x a b c : ℕ) → lower a b ≡ c → lower (x + a) (x + b) ≡ x + c
lower_on x a b c e = omega arith

apart_on : (y a b : ℕ) → apart (y + a) (y + b) ≡ apart a b
apart_on y a b = omega arith

pub half_small : (side : ℕ) → side < side_count → side / 2 < 3
half_small side h = omega arith

module _ (s : Star) (side u v : ℕ) (hs : side < side_count) (hu : u < subdivisions s) (hv : v < subdivisions s) where
  abbrev pub face : Xyz
  face = face_at (subdivisions s) side u v

  module _ (e : ℕ) (c : T (coarse_edge e)) where
    -- the grid edge, as an edge of the near face
    abbrev pub edge_on : Edge
    edge_on = code_edge face.x face.y face.z (byte_at side e)

    abbrev pub first_point : Xyz
    first_point = coarse_point (subdivisions s) side (u + point_u (point_a e) / 2) (v + point_v (point_a e) / 2)

    abbrev pub second_point : Xyz
    second_point =
        coarse_point (subdivisions s) side (u + point_u (point_a e) / 2 + one (eqb (axis_of e) 0)) (v + point_v (point_a e) / 2 + one (eqb (axis_of e) 1))

    first_corner : first_point ≡ corner_of face (corner_at side (point_a e - 9))
    first_corner =
        let r = ends_right e c in
        ap₂ (λ (a b : ℕ). coarse_point (subdivisions s) side (u + a) (v + b)) r.a_u r.a_v ∙ corner_at_lem (subdivisions s) side u v _ hs r.a_in hu hv

    second_corner : second_point ≡ corner_of face (corner_at side (point_b e - 9))
    second_corner =
        let r = ends_right e c in
        let along : (u a k b : ℕ) → a + k ≡ b → u + a + k ≡ u + b = λ u a k b e. omega arith in
        ap₂ (coarse_point (subdivisions s) side) (along u _ _ _ r.b_u) (along v _ _ _ r.b_v) ∙ corner_at_lem (subdivisions s) side u v _ hs r.b_in hu hv

    pub edge_is : face_edge s side (u + point_u (point_a e) / 2) (v + point_v (point_a e) / 2) (axis_of e) ≡ edge_on
    unfolding face_edge edge_between
    edge_is =
        let r = byte_right side e hs c in
        rw (first_corner, second_corner)
        (same_edge (lower_on face.x _ _ _ r.x_is) (lower_on face.y _ _ _ r.y_is) (lower_on face.z _ _ _ r.z_is)
        (rw (apart_on face.y, apart_on face.z) r.axis_is))

    pub byte_small : byte_at side e < 256
    byte_small = (byte_right side e hs c).small

    pub byte_near : T (near_edge (side / 2) (byte_at side e))
    byte_near = (byte_right side e hs c).near

    byte_regular : T (has (byte_at side e) regular_edges)
    unfolding near_edge
    byte_regular = both_right _ _ byte_near

    pub in_side : InSide s side edge_on
    in_side =
        let i = near_in_face (side / 2) face.x face.y face.z (byte_at side e) (half_small side hs) byte_near in
        let p = part_is (subdivisions s) side u v hs in
        record { low_in = i.low_in ∙ p; high_in = i.high_in ∙ p }

    pub of_block : OfBlock s edge_on
    of_block =
        face_of_block s (side / 2) _ _ _ _ (half_small side hs) (is_face s side u v hs hu hv) (byte_own (byte_at side e) byte_regular _ _ _)
        (near_in_face (side / 2) _ _ _ (byte_at side e) (half_small side hs) byte_near)

    high_corner : high edge_on ≡ corner_of face (point_b (byte_at side e))
    high_corner = byte_high (byte_at side e) byte_regular _ _ _

    -- the vertex between its ends, in the order in which the transition cell has them
    pub edge_vertex : vertex_between s.threshold (regular_point s first_point) (regular_point s second_point)
        ≡ cond (runs_down side edge_on.axis) (vertex_back s edge_on) (vertex_on s edge_on)
    edge_vertex = go (runs_down side edge_on.axis) (byte_right side e hs c).first_is (byte_right side e hs c).second_is
      where
        between : Xyz → Xyz → Vertex
        between a b = vertex_between s.threshold (regular_point s a) (regular_point s b)

        go : (b : Bool) → cond b (point_b (byte_at side e)) (point_a (byte_at side e)) ≡ corner_at side (point_a e - 9)
            → cond b (point_a (byte_at side e)) (point_b (byte_at side e)) ≡ corner_at side (point_b e - 9)
            → between first_point second_point ≡ cond b (vertex_back s edge_on) (vertex_on s edge_on)
        go true f g =
            ap₂ between (first_corner ∙ ap (corner_of face) (sym f) ∙ sym high_corner) (second_corner ∙ ap (corner_of face) (sym g))
        go false f g =
            ap₂ between (first_corner ∙ ap (corner_of face) (sym f)) (second_corner ∙ ap (corner_of face) (sym g) ∙ sym high_corner)

-- ---- numbers

pub number_below : (s : Star) (e : Edge) → OfBlock s e → number s e < edges_most s
number_below s e h =
    let m = subdivisions s + 1 in
    rw number_pairs
    (let p = pair_in m m e.low.x e.low.y (omega (arith, h.high_x)) (omega (arith, h.high_y)) in
    let q = pair_in (m * m) m _ e.low.z p (omega (arith, h.high_z)) in
    omega (arith, h.axis_is))
