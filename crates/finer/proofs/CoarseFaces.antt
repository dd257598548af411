-- What the coarse face of a transition cell shows is what the face of the grid there shows, turned round at a low side, where the samples agree.
use Rattle.std.specs.Prelude.{◌≡◌, refl, Bool, true, false, map, ℕ, ◌+◌, ◌*◌, ◌/◌, ◌%◌, ◌≤◌, ◌<◌, T, eqb, ltb}
use Rattle.std.proofs.Math.Path.{sym, ap, ap₂}
use Rattle.std.proofs.Common.{◌∙◌, arith, eqb→eq}
use Rattle.std.proofs.Math.Dec.{ltb→lt}
use Rattle.laws.specs.Tests.{both, both_left, both_right, below, all, all₂}
use Rattle.laws.specs.Counting.{pick, weighed}
use Rattle.laws.specs.Sums.{each_as, weighed_map, weighed_same}
use Rattle.tables.specs.Corners.{bit}
use Rattle.tables.specs.Points.{point_u, point_v}
use Rattle.tables.specs.Sides.{back, near_corner, shown}
use Rattle.tables.specs.FinerSides.{coarse_edge, coarse_side, shown_coarse, laid_on, undone, laid_side, laid_bits}
use Rattle.tables.proofs.RulesFiner.{coarse_laid}
use Rattle.model.specs.declared.Xyz.{Xyz}
use Rattle.model.specs.Star.{Star, subdivisions}
use Rattle.closed.specs.Clauses.{number, inside_at, run}
use Rattle.closed.specs.Cells.{bits_small, bits_are, code_edge}
use Rattle.closed.specs.SideCells.{fine_inside, fine_small, agreed_inside}
use Rattle.closed.specs.Weighing.{side_from, side_to, weighed_back}
use Rattle.closed.specs.Flux.{shown_near, weight as gridWeight, face_bits, face_runs}
use Rattle.closed.specs.Indices.{IsSideCell}
use Rattle.finer.specs.Labels.{label_of}
use Rattle.finer.specs.Clauses.{Agreed}
use Rattle.finer.specs.SideLabels.{is_coarse, coarse_label}
use Rattle.finer.proofs.Faces.{face_at, corner_of, way_of, corner_at, way_right, corner_at_lem, byte_at, half_small, edge_is, byte_small}
use Rattle.finer.specs.SideFlux.{corner_inside, coarse_bits, weight, coarse_runs}
use Rattle.finer.proofs.SideFlux.{shown_coarse_lem}

-- ---- the four corners

-- the coarse corner j lies at twice (j % 2, j / 2), in fine steps; and what is laid and then laid back lies where it was
unfoldable corner_test : ℕ → Bool
corner_test j = both (eqb (point_u (9 + j)) (2 * (j % 2))) (eqb (point_v (9 + j)) (2 * (j / 2)))

corners_right : T (below corner_test 4)
unfolding point_u point_v corner_test both
corners_right = tt

unfoldable back_test : ℕ → ℕ → Bool
back_test p j = both (ltb (laid_on (undone p) j) 4) (eqb (laid_on p (laid_on (undone p) j)) j)

backs_right : T (below (λ p. below (back_test p) 4) 8)
unfolding bit laid_on undone back_test both
backs_right = tt

doubled : (u a k : ℕ) → a ≡ 2 * k → 2 * u + a ≡ 2 * (u + k)
doubled u a k e = omega arith

corner_most : (n u k : ℕ) → u < n → k < 2 → u + k ≤ n
corner_most n u k h l = omega arith

halves : (j : ℕ) → j < 4 → (j % 2 < 2) × (j / 2 < 2)
halves j h = (omega arith, omega arith)

module _ (s : Star) (side u v : ℕ) (cell : IsSideCell s side u v) where
  abbrev at : Xyz
  at = face_at (subdivisions s) side u v

  abbrev d : ℕ
  d = side / 2

  bits_below : coarse_bits s side u v < 16
  unfolding coarse_bits
  bits_below = bits_small (corner_inside s side u v) (λ j. fine_small s side _ _) 4

  bit_is : (j : ℕ) → j < 4 → bit (coarse_bits s side u v) j ≡ corner_inside s side u v j
  unfolding coarse_bits
  bit_is j h = bits_are (corner_inside s side u v) (λ j. fine_small s side _ _) 4 j h

  module _ (agreed : Agreed s) where
    corner_inside_lem : (j : ℕ) → j < 4 → corner_inside s side u v j ≡ inside_at s (corner_of at (corner_at side j))
    unfolding corner_test
    corner_inside_lem j h =
        let t = all corner_test 4 corners_right j h in
        let small = halves j h in
        ap₂ (fine_inside s side) (doubled u _ _ (eqb→eq _ _ (both_left _ _ t))) (doubled v _ _ (eqb→eq _ _ (both_right _ _ t)))
        ∙ sym (agreed_inside s side (u + j % 2) (v + j / 2)
        (agreed side _ _ (record { side_in = cell.side_in; side_named = cell.side_named }) (corner_most _ u _ cell.u_in small.0) (corner_most _ v _ cell.v_in small.1)))
        ∙ ap (inside_at s) (corner_at_lem (subdivisions s) side u v j cell.side_in h cell.u_in cell.v_in)

    near_inside : (i : ℕ) → i < 4 → bit (coarse_bits s side u v) (laid_on (undone (way_of side)) i) ≡ inside_at s (corner_of at (near_corner d i))
    unfolding back_test
    near_inside i h =
        let t = all₂ back_test 8 4 backs_right (way_of side) i (way_right side cell.side_in).small h in
        let small = ltb→lt (laid_on (undone (way_of side)) i) 4 (both_left _ _ t) in
        bit_is _ small ∙ corner_inside_lem _ small ∙ ap (λ (k : ℕ). inside_at s (corner_of at (near_corner d k))) (eqb→eq _ _ (both_right _ _ t))

    laid_bits_lem : laid_bits (way_of side) (coarse_bits s side u v) ≡ face_bits s d at.x at.y at.z
    unfolding laid_bits face_bits
    laid_bits_lem = rw (near_inside 0 (omega arith), near_inside 1 (omega arith), near_inside 2 (omega arith), near_inside 3 (omega arith))

  -- ---- what a side weighs

  grid_label : (e : ℕ) → T (coarse_edge e) → label_of s side u v e ≡ number s (code_edge at.x at.y at.z (byte_at side e))
  grid_label e t =
      coarse_label s side u v e (is_coarse e t).1 ∙ ap (number s) (edge_is s side u v cell.side_in cell.u_in cell.v_in e t)

  grid_weight : (g h k : ℕ) → T (coarse_side k) → weight s side g h u v k ≡ gridWeight s g h at.x at.y at.z (laid_side d (way_of side) k)
  unfolding gridWeight laid_side coarse_side
  grid_weight g h k t =
      let small = byte_small s side u v cell.side_in cell.u_in cell.v_in (k % 256) (both_right _ _ t) in
      let from = byte_at side (k / 256) in
      let to = byte_at side (k % 256) in
      ap₂ (run g h) (grid_label (k / 256) (both_left _ _ t)) (grid_label (k % 256) (both_right _ _ t))
      ∙ sym (ap₂ (λ (a b : ℕ). run g h (number s (code_edge at.x at.y at.z a)) (number s (code_edge at.x at.y at.z b)))
      (side_from from to small) (side_to from to small))

  coarse_grid : (g h : ℕ) → coarse_runs s side g h u v
      ≡ weighed (gridWeight s g h at.x at.y at.z) (map (laid_side d (way_of side)) (shown_coarse (coarse_bits s side u v)))
  unfolding coarse_runs
  coarse_grid g h =
      let ks = shown_coarse (coarse_bits s side u v) in
      weighed_same _ _ (λ k t. grid_weight g h k t.1) ks (shown_coarse_lem (coarse_bits s side u v))
      ∙ sym (weighed_map (gridWeight s g h at.x at.y at.z) (laid_side d (way_of side)) ks)

-- ---- what the outer face of the grid shows at the cell (u, v) of a side

unfoldable pub shown_at : Star → ℕ → ℕ → ℕ → ℕ → ℕ → ℕ
shown_at s g h side u v =
    let p = face_at (subdivisions s) side u v in
    pick (eqb (side % 2) 0) (face_runs s h g (side / 2) p.x p.y p.z) (face_runs s g h (side / 2) p.x p.y p.z)

-- seen from beyond a face, its sides run the other way
seen_weighed : (s : Star) (g h dir x y z : ℕ) (b : Bool)
    → let ks = shown dir (face_bits s dir x y z) in
    weighed (gridWeight s g h x y z) (pick b (map back ks) ks) ≡ pick b (face_runs s h g dir x y z) (face_runs s g h dir x y z)
unfolding gridWeight face_runs
seen_weighed s g h dir x y z true =
    let ks = shown dir (face_bits s dir x y z) in
    weighed_back (λ p. number s (code_edge x y z p)) g h ks (each_as (λ k p. p.0) ks (shown_near dir (face_bits s dir x y z)))
seen_weighed s g h dir x y z false = refl

pub coarse_shows : (s : Star) (side g h u v : ℕ) → IsSideCell s side u v → Agreed s → coarse_runs s side g h u v ≡ shown_at s g h side u v
unfolding shown_at
coarse_shows s side g h u v cell agreed =
    let p = face_at (subdivisions s) side u v in
    let dir = side / 2 in
    let way = way_right side cell.side_in in
    let w = gridWeight s g h p.x p.y p.z in
    coarse_grid s side u v cell g h
    ∙ coarse_laid w dir (way_of side) (coarse_bits s side u v) (half_small side cell.side_in) way.small (bits_below s side u v cell)
    ∙ ap₂ (λ (m f : ℕ). weighed w (pick (eqb m 0) (map back (shown dir f)) (shown dir f))) way.handed (laid_bits_lem s side u v cell agreed)
    ∙ seen_weighed s g h dir p.x p.y p.z (eqb (side % 2) 0)
