-- All points of a block and of the fine faces of its named sides are on one side of the threshold exactly when no cell has a triangle. One way holds of
-- every block; the other asks that 8 passes, which ties each face's first point to the centre's.
use Rattle.std.specs.Prelude.{◌≡◌, refl, Bool, true, false, cond, ℕ, ◌+◌, ◌*◌, ◌/◌, ◌%◌, ◌^◌, ◌≤◌, ◌<◌, T, leb, length, Ok}
use Rattle.std.proofs.Math.Path.{sym}
use Rattle.std.proofs.Common.{ap₂, ◌∙◌, add-zero, arith, leb→le, lit≤}
use Rattle.laws.specs.Steps.{total}
use Rattle.laws.specs.Sums.{total_none, square, square_none, cube}
use Rattle.laws.specs.Tests.{both, below, all}
use Rattle.laws.specs.Ranges.{beq_eq, none_each, square_each, cube_each, cube_none}
use Rattle.tables.specs.Points.{contribution_of}
use Rattle.tables.specs.Cases.{regular_triangles, transition_triangles}
use Rattle.tables.specs.RulesUncut.{UncutAlone, regular_uncut_alone, transition_uncut_alone}
use Rattle.model.specs.Limits.{side_count}
use Rattle.model.specs.Sides.{named}
use Rattle.model.specs.Rotations.{point_from, face_point}
use Rattle.model.specs.Star.{Star, subdivisions}
use Rattle.model.specs.Points.{regular_case, transition_case}
use Rattle.model.specs.OverCells.{triangles_at, triangles_on_side}
use Rattle.model.specs.Judging.{faces_agree, judge_faces}
use Rattle.model.specs.Mesh.{mesh_of}
use Rattle.grid.specs.Places.{Within}
use Rattle.grid.specs.RotationLaws.{turned}
use Rattle.agreement.specs.Faces.{faces_agree_lem}
use Rattle.blankness.specs.Weights.{taken, taken_most, alike, of_alike}
use Rattle.blankness.specs.Linked.{cube_alike, square_alike}
use Rattle.blankness.specs.Counted.{of_side, triangles_counted}
use Rattle.blankness.specs.OneSide.{centre_in, fine_in, OneSide, corner_in, spot_in}

-- ---- a cell of either kind: its case number is what the weights of its inside points come to

module _ (w : ℕ → ℕ) (points : ℕ) (positive : T (below (λ k. leb 1 (w k)) points)) (triangles : ℕ → ℕ)
    (alone : (case : ℕ) → case < total w points + 1 → UncutAlone triangles (total w points) case) (f : ℕ → Bool) where
  uncut_alone : UncutAlone triangles (total w points) (taken w f points)
  uncut_alone = alone (taken w f points) (omega (arith, taken_most w f points))

  -- it has no triangle: its points are alike
  points_alike : 0 < points → triangles (taken w f points) ≡ 0 → (k : ℕ) → k < points → f k ≡ f 0
  points_alike h e = alike w f points h (λ k l. leb→le _ _ (all (λ k. leb 1 (w k)) points positive k l)) (uncut_alone.0 e)

  -- its points are alike: it has no triangle
  no_triangle : (b : Bool) → ((k : ℕ) → k < points → f k ≡ b) → triangles (taken w f points) ≡ 0
  no_triangle b h = uncut_alone.1 (of_alike w f points b h)

abbrev power : ℕ → ℕ
power k = 2 ^ k

powers : T (below (λ k. leb 1 (power k)) 8)
unfolding both
powers = tt

contributions : T (below (λ k. leb 1 (contribution_of k)) 9)
unfolding both
contributions = tt

module _ (s : Star) where
  abbrev n : ℕ
  n = subdivisions s

  regular_alike : (x y z : ℕ) → triangles_at s x y z ≡ 0 → (k : ℕ) → k < 8 → corner_in s x y z k ≡ centre_in s x y z
  unfolding regular_case centre_in
  regular_alike x y z e k h =
      points_alike power 8 powers regular_triangles regular_uncut_alone (corner_in s x y z) (lit≤ tt) e k h
      ∙ (λ i. centre_in s (add-zero x i) (add-zero y i) (add-zero z i))

  transition_alike : (side u v : ℕ) → triangles_on_side s side u v ≡ 0 → (k : ℕ) → k < 9 → spot_in s side u v k ≡ fine_in s side (2 * u) (2 * v)
  unfolding transition_case fine_in
  transition_alike side u v e k h =
      points_alike contribution_of 9 contributions transition_triangles transition_uncut_alone (spot_in s side u v) (lit≤ tt) e k h
      ∙ (λ i. fine_in s side (add-zero (2 * u) i) (add-zero (2 * v) i))

  regular_none : (x y z : ℕ) (b : Bool) → ((k : ℕ) → k < 8 → corner_in s x y z k ≡ b) → triangles_at s x y z ≡ 0
  unfolding regular_case centre_in
  regular_none x y z b h = no_triangle power 8 powers regular_triangles regular_uncut_alone (corner_in s x y z) b h

  transition_none : (side u v : ℕ) (b : Bool) → ((k : ℕ) → k < 9 → spot_in s side u v k ≡ b) → triangles_on_side s side u v ≡ 0
  unfolding transition_case fine_in
  transition_none side u v b h = no_triangle contribution_of 9 contributions transition_triangles transition_uncut_alone (spot_in s side u v) b h

  -- ---- one side: no triangle, whether or not the faces agree

  module _ (b : Bool) (o : OneSide s b) where
    side_none : (side : ℕ) → side < side_count → of_side s side ≡ 0
    side_none side hs = go (named s.mask side) (λ e. e)
      where
        go : (c : Bool) → (c ≡ true → named s.mask side ≡ true) → cond c (square (triangles_on_side s side) n) 0 ≡ 0
        go true is_named =
            square_none (triangles_on_side s side) n
            (λ u v hu hv. transition_none side u v b
            (λ k hk. o.fine side (omega arith) (is_named refl) (2 * u + k % 3) (2 * v + k / 3) (omega arith) (omega arith)))
        go false is_named = refl

    pub one_side_none : length (mesh_of s).triangles ≡ 0
    one_side_none =
        triangles_counted s
        ∙ ap₂ ◌+◌
        (cube_none (triangles_at s) n
        (λ x y z hx hy hz. regular_none x y z b
        (λ k hk. o.centre (x + k % 2) (y + k / 2 % 2) (z + k / 4 % 2) (omega arith) (omega arith) (omega arith))))
        (total_none (of_side s) side_count side_none)

  -- ---- no triangle: the centre is on one side, and so is each face

  module _ (some : 0 < n) (none : length (mesh_of s).triangles ≡ 0) where
    parts_none : (cube (triangles_at s) n ≡ 0) × (total (of_side s) side_count ≡ 0)
    parts_none = let e = sym (triangles_counted s) ∙ none in (omega (arith, e), omega (arith, e))

    centre_alike : (x y z : ℕ) → x ≤ n → y ≤ n → z ≤ n → centre_in s x y z ≡ centre_in s 0 0 0
    centre_alike =
        cube_alike (centre_in s) n
        (λ x y z k hx hy hz hk. regular_alike x y z (cube_each (triangles_at s) n parts_none.0 x y z hx hy hz) k hk) some

    fine_alike : (side : ℕ) → side < side_count → named s.mask side ≡ true
        → (u2 v2 : ℕ) → u2 ≤ 2 * n → v2 ≤ 2 * n → fine_in s side u2 v2 ≡ fine_in s side 0 0
    fine_alike side hs is_named =
        let e : square (triangles_on_side s side) n ≡ 0 = rw is_named at (none_each (of_side s) side_count parts_none.1 side hs) in
        square_alike (fine_in s side) n
        (λ u v k hu hv hk. transition_alike side u v (square_each (triangles_on_side s side) n e u v hu hv) k hk) some

    -- ---- and where 8 passes, on the same

    module _ (agree : judge_faces s ≡ Ok tt) (side : ℕ) (hs : side < side_count) (is_named : named s.mask side ≡ true) where
      corner_in_lem : Within n (face_point n side 0 0)
      unfolding point_from
      corner_in_lem =
          let t = turned n 0 0 0 (omega arith) (omega arith) (omega arith) side hs in
          record { x_in = t.x.in_range; y_in = t.y.in_range; z_in = t.z.in_range }

      face_tied : fine_in s side 0 0 ≡ centre_in s 0 0 0
      unfolding faces_agree centre_in fine_in
      face_tied =
          sym (beq_eq _ _ (faces_agree_lem s agree side 0 0 hs is_named (omega arith) (omega arith))) ∙ centre_alike _ _ _ corner_in_lem.x_in corner_in_lem.y_in corner_in_lem.z_in

    pub none_one_side : judge_faces s ≡ Ok tt → OneSide s (centre_in s 0 0 0)
    none_one_side agree =
        record {
          centre = λ x y z hx hy hz. centre_alike x y z (omega arith) (omega arith) (omega arith);
          fine = λ side hs is_named u2 v2 hu hv.
              let one_of_six : side < side_count = omega arith in
              fine_alike side one_of_six is_named u2 v2 hu hv ∙ face_tied agree side one_of_six is_named;
        }
