-- The directed sides of a transition cell's triangles against what its borders, its coarse face and its fine face show, by the tables' law. A border
-- shows the same sides to the cells on both sides of it, so that the sum over a side comes down to its rim, its coarse faces and its fine face.
use Rattle.std.specs.Prelude.{◌≡◌, Bool, List, map, ℕ, suc, ◌+◌, ◌*◌, ◌/◌, ◌%◌, ◌<◌, T, eqb, ltb}
use Rattle.std.proofs.Math.Path.{ap₂}
use Rattle.std.proofs.Common.{◌∙◌, add-zero, add-one, eqb→eq, ltb→lt}
use native.Mathlib.Omega.{arith}
use Rattle.laws.specs.Tests.{both, both_left, both_right, then, then_holds, below, all₂}
use Rattle.laws.specs.Counting.{every, only, weighed}
use Rattle.laws.specs.Sums.{Each, each_as, each_map, each_only, weighed_append, weighed_map, weighed_same, square}
use Rattle.laws.specs.Squares.{square_three, rim}
use Rattle.laws.proofs.Squares.{telescope_square}
use Rattle.tables.specs.Codes.{point_a}
use Rattle.tables.specs.Corners.{axis_of}
use Rattle.tables.specs.Cases.{transition_code, transition_corner, transition_triangles, transition_turned, sent}
use Rattle.tables.specs.Points.{point_u, point_v, point_face, transition_inside}
use Rattle.tables.specs.RulesTransition.{transition_edges}
use Rattle.tables.specs.Sides.{side, back}
use Rattle.tables.specs.FinerSides.{transition_sides, transition_sides_lem, fine_edge, across, low_edge, high_edge, low_side, high_side, low_point, high_point, low_bits, high_bits, spread_low, shown_low, coarse_side, corner_bits, spread_corners, shown_coarse, fine_side, lows, highs, coarses, in_of, out_of, finer_in, finer_out}
use Rattle.tables.proofs.RulesFiner.{finer_balanced}
use Rattle.model.specs.Star.{Star, subdivisions}
use Rattle.model.specs.Points.{transition_case}
use Rattle.closed.specs.Clauses.{run}
use Rattle.closed.specs.SideCells.{case_small, fine_inside, case_inside}
use Rattle.closed.specs.Weighing.{side_from, side_to, side_small, sides_below, weighed_back}
use Rattle.finer.specs.Labels.{label_of}
use Rattle.finer.specs.SideLabels.{edge_told, fine_on, label_on}
use Rattle.finer.specs.SideFlux.{onward, MovedEdge, border_bits, coarse_bits, weight, side_runs, border_runs, coarse_runs, fine_runs}

-- ---- an edge of the low border, as the cell before it has it on its high border

unfoldable moved_test : ℕ → ℕ → Bool
moved_test d e =
    then (low_edge d e)
    (both (both (ltb e 256) (ltb (high_edge d e) 256))
    (both (both (eqb (point_face (point_a (high_edge d e))) (point_face (point_a e))) (eqb (axis_of (high_edge d e)) (axis_of e)))
    (both (eqb (point_u (point_a (high_edge d e))) (point_u (point_a e) + 2 * onward 0 d)) (eqb (point_v (point_a (high_edge d e))) (point_v (point_a e) + 2 * onward 1 d)))))

all_moved : T (below (λ d. every (moved_test d) transition_edges) 2)
unfolding transition_edges fine_edge across low_edge high_edge point_u point_v point_face moved_test both then
all_moved = tt

pub moved : (d e : ℕ) → d < 2 → T (low_edge d e) → MovedEdge d e
unfolding low_edge moved_test
moved d e hd t =
    let t₀ = then_holds (low_edge d e) _ (edge_told d hd moved_test all_moved e (both_right _ _ t)) t in
    let small = both_left _ _ t₀ in
    let t₁ = both_right _ _ t₀ in
    let same = both_left _ _ t₁ in
    let t₂ = both_right _ _ t₁ in
    record {
      small = ltb→lt _ _ (both_left _ _ small);
      high_small = ltb→lt _ _ (both_right _ _ small);
      face = eqb→eq _ _ (both_left _ _ same);
      along = eqb→eq _ _ (both_right _ _ same);
      a_u = eqb→eq _ _ (both_left _ _ t₂);
      a_v = eqb→eq _ _ (both_right _ _ t₂);
    }

pub label_moved : (s : Star) (side d u v e : ℕ) → MovedEdge d e → label_of s side u v (high_edge d e) ≡ label_of s side (u + onward 0 d) (v + onward 1 d) e
label_moved s side d u v e m =
    rw (m.face, m.along) (label_on s side u v (onward 0 d) (onward 1 d) (point_face (point_a e)) _ _ _ _ (axis_of e) m.a_u m.a_v)

-- ---- lists of sides

pub transition_below : (case : ℕ) → Each (λ k. k < 65536) (transition_sides case)
transition_below case =
    rw (transition_sides_lem case) (sides_below (λ j. transition_code case (transition_corner case (sent (transition_turned case) j))) (transition_triangles case))

pub shown_low_lem : (d f : ℕ) → Each (λ k. (k < 65536) × T (low_side d k)) (shown_low d f)
unfolding shown_low
shown_low_lem d f = each_only (λ k. k < 65536) (low_side d) _ (transition_below (spread_low d f))

pub shown_coarse_lem : (f : ℕ) → Each (λ k. (k < 65536) × T (coarse_side k)) (shown_coarse f)
unfolding shown_coarse
shown_coarse_lem f = each_only (λ k. k < 65536) coarse_side _ (transition_below (spread_corners f))

shown_fine : (case : ℕ) → Each (λ k. (k < 65536) × T (fine_side k)) (only fine_side (transition_sides case))
shown_fine case = each_only (λ k. k < 65536) fine_side _ (transition_below case)

module _ (d : ℕ) (hd : d < 2) where
  high_parts : (k : ℕ) → T (low_side d k) → (high_side d k / 256 ≡ high_edge d (k / 256)) × (high_side d k % 256 ≡ high_edge d (k % 256))
  unfolding low_side high_side
  high_parts k t =
      let l = (moved d (k % 256) hd (both_right _ _ t)).high_small in
      (side_from (high_edge d (k / 256)) (high_edge d (k % 256)) l, side_to (high_edge d (k / 256)) (high_edge d (k % 256)) l)

  high_below : (k : ℕ) → T (low_side d k) → high_side d k < 65536
  unfolding low_side
  high_below k t = side_small _ (rw (high_parts k t).0 (moved d (k / 256) hd (both_left _ _ t)).high_small)

record BorderPoint (d j : ℕ) : Type 0 where
  low_in : low_point d j < 13
  high_in : high_point d j < 13
  u_is : point_u (high_point d j) ≡ point_u (low_point d j) + 2 * onward 0 d
  v_is : point_v (high_point d j) ≡ point_v (low_point d j) + 2 * onward 1 d

unfoldable point_test : ℕ → ℕ → Bool
point_test d j =
    both (both (ltb (low_point d j) 13) (ltb (high_point d j) 13))
    (both (eqb (point_u (high_point d j)) (point_u (low_point d j) + 2 * onward 0 d)) (eqb (point_v (high_point d j)) (point_v (low_point d j) + 2 * onward 1 d)))

points_right : T (below (λ d. below (point_test d) 3) 2)
unfolding point_u point_v low_point high_point point_test both
points_right = tt

border_point : (d j : ℕ) → d < 2 → j < 3 → BorderPoint d j
unfolding point_test
border_point d j hd hj =
    let t = all₂ point_test 2 3 points_right d j hd hj in
    let small = both_left _ _ t in
    let place = both_right _ _ t in
    record {
      low_in = ltb→lt _ _ (both_left _ _ small);
      high_in = ltb→lt _ _ (both_right _ _ small);
      u_is = eqb→eq _ _ (both_left _ _ place);
      v_is = eqb→eq _ _ (both_right _ _ place);
    }

module _ (s : Star) (side u v : ℕ) where
  abbrev case : ℕ
  case = transition_case s side u v

  module _ (d : ℕ) (hd : d < 2) where
    low_inside : (j : ℕ) → j < 3 → transition_inside case (low_point d j) ≡ fine_inside s side (2 * u + point_u (low_point d j)) (2 * v + point_v (low_point d j))
    low_inside j hj = case_inside s side u v _ (border_point d j hd hj).low_in

    high_inside : (j : ℕ) → j < 3
        → transition_inside case (high_point d j)
        ≡ fine_inside s side (2 * (u + onward 0 d) + point_u (low_point d j)) (2 * (v + onward 1 d) + point_v (low_point d j))
    high_inside j hj =
        let p = border_point d j hd hj in
        case_inside s side u v _ p.high_in ∙ ap₂ (fine_inside s side) (fine_on u _ _ _ p.u_is) (fine_on v _ _ _ p.v_is)

    low_bits_lem : low_bits d case ≡ border_bits s side d u v
    unfolding low_bits border_bits
    low_bits_lem = rw (low_inside 0 (omega arith), low_inside 1 (omega arith), low_inside 2 (omega arith))

    high_bits_lem : high_bits d case ≡ border_bits s side d (u + onward 0 d) (v + onward 1 d)
    unfolding high_bits border_bits
    high_bits_lem = rw (high_inside 0 (omega arith), high_inside 1 (omega arith), high_inside 2 (omega arith))

  corner_bits_lem : corner_bits case ≡ coarse_bits s side u v
  unfolding corner_bits coarse_bits
  corner_bits_lem =
      let at = case_inside s side u v in
      omega (arith, at 9 (omega arith), at 10 (omega arith), at 11 (omega arith), at 12 (omega arith))

-- ---- the sides from g to h of a cell's triangles, and those that a border, the coarse face and the fine face show

module _ (s : Star) (side g h : ℕ) where
  module _ (u v : ℕ) where
    abbrev flow : List ℕ → ℕ
    flow ks = weighed (weight s side g h u v) ks

    coarse_forth : flow (coarses (transition_case s side u v)) ≡ coarse_runs s side g h u v
    unfolding coarses coarse_runs
    coarse_forth = rw (corner_bits_lem s side u v)

    module _ (d : ℕ) (hd : d < 2) where
      low_forth : flow (lows d (transition_case s side u v)) ≡ border_runs s side g h d u v
      unfolding lows border_runs
      low_forth = rw (low_bits_lem s side u v d hd)

      -- a side on the high border is one on the low border of the next cell
      high_weight : (k : ℕ) → T (low_side d k) → weight s side g h u v (high_side d k) ≡ weight s side g h (u + onward 0 d) (v + onward 1 d) k
      unfolding low_side
      high_weight k t =
          let p = high_parts d hd k t in
          let from = label_moved s side d u v _ (moved d (k / 256) hd (both_left _ _ t)) in
          let to = label_moved s side d u v _ (moved d (k % 256) hd (both_right _ _ t)) in
          ap₂ (λ (a b : ℕ). run g h (label_of s side u v a) (label_of s side u v b)) p.0 p.1 ∙ ap₂ (run g h) from to

      high_forth : flow (highs d (transition_case s side u v)) ≡ border_runs s side g h d (u + onward 0 d) (v + onward 1 d)
      unfolding highs border_runs
      high_forth =
          let ks = shown_low d (border_bits s side d (u + onward 0 d) (v + onward 1 d)) in
          rw (high_bits_lem s side u v d hd)
          (weighed_map (weight s side g h u v) (high_side d) ks ∙ weighed_same _ _ (λ k p. high_weight k p.1) ks (shown_low_lem d _))

-- the same turned round
module _ (s : Star) (side g h u v : ℕ) where
  turned : (ks : List ℕ) → Each (λ k. k < 65536) ks → flow s side g h u v (map back ks) ≡ flow s side h g u v ks
  turned ks e = weighed_back (label_of s side u v) g h ks e

  cell_back : flow s side g h u v (map back (transition_sides (transition_case s side u v))) ≡ side_runs s side h g u v
  unfolding side_runs
  cell_back = turned (transition_sides (transition_case s side u v)) (transition_below (transition_case s side u v))

  fine_back : flow s side g h u v (map back (only fine_side (transition_sides (transition_case s side u v)))) ≡ fine_runs s side h g u v
  unfolding fine_runs
  fine_back = let ks = only fine_side (transition_sides (transition_case s side u v)) in turned ks (each_as (λ k p. p.0) ks (shown_fine (transition_case s side u v)))

  coarse_back : flow s side g h u v (map back (coarses (transition_case s side u v))) ≡ coarse_runs s side h g u v
  unfolding coarses
  coarse_back =
      let ks = shown_coarse (corner_bits (transition_case s side u v)) in
      turned ks (each_as (λ k p. p.0) ks (shown_coarse_lem _)) ∙ coarse_forth s side h g u v

  module _ (d : ℕ) (hd : d < 2) where
    low_back : flow s side g h u v (map back (lows d (transition_case s side u v))) ≡ border_runs s side h g d u v
    unfolding lows
    low_back =
        let ks = shown_low d (low_bits d (transition_case s side u v)) in
        turned ks (each_as (λ k p. p.0) ks (shown_low_lem d _)) ∙ low_forth s side h g u v d hd

    high_back : flow s side g h u v (map back (highs d (transition_case s side u v))) ≡ border_runs s side h g d (u + onward 0 d) (v + onward 1 d)
    unfolding highs
    high_back =
        let ks = shown_low d (high_bits d (transition_case s side u v)) in
        turned (map (high_side d) ks) (each_map (λ k. k < 65536) (high_side d) (λ k p. high_below d hd k p.1) ks (shown_low_lem d _))
        ∙ high_forth s side h g u v d hd

  cell_balanced : side_runs s side g h u v + (coarse_runs s side h g u v + fine_runs s side h g u v)
      + (border_runs s side g h 0 (suc u) v + border_runs s side h g 0 u v) + (border_runs s side g h 1 u (suc v) + border_runs s side h g 1 u v)
      ≡ side_runs s side h g u v + (coarse_runs s side g h u v + fine_runs s side g h u v)
      + (border_runs s side h g 0 (suc u) v + border_runs s side g h 0 u v) + (border_runs s side h g 1 u (suc v) + border_runs s side g h 1 u v)
  unfolding finer_in finer_out in_of out_of side_runs fine_runs
  cell_balanced =
      omega (
        arith,
        simp weighed_append at (finer_balanced (weight s side g h u v) (transition_case s side u v) (case_small s side u v)),
        cell_back,
        coarse_forth s side g h u v,
        coarse_back,
        fine_back,
        low_forth s side g h u v 0 (omega arith),
        low_forth s side g h u v 1 (omega arith),
        low_back 0 (omega arith),
        low_back 1 (omega arith),
        simp (add-zero, add-one) at (high_forth s side g h u v 0 (omega arith)),
        simp (add-zero, add-one) at (high_forth s side g h u v 1 (omega arith)),
        simp (add-zero, add-one) at (high_back 0 (omega arith)),
        simp (add-zero, add-one) at (high_back 1 (omega arith)),
      )

-- over all cells of a side, with what its coarse faces, its fine face and its rim show on both sides
pub side_balanced : (s : Star) (side g h : ℕ) → let n = subdivisions s in
    square (side_runs s side g h) n + (square (coarse_runs s side h g) n + square (fine_runs s side h g) n) + rim (border_runs s side g h) (border_runs s side h g) n
    ≡ square (side_runs s side h g) n + (square (coarse_runs s side g h) n + square (fine_runs s side g h) n) + rim (border_runs s side h g) (border_runs s side g h) n
side_balanced s side g h =
    let n = subdivisions s in
    omega (
      arith,
      telescope_square
          (λ u v. side_runs s side g h u v + (coarse_runs s side h g u v + fine_runs s side h g u v))
          (λ u v. side_runs s side h g u v + (coarse_runs s side g h u v + fine_runs s side g h u v))
          (border_runs s side g h) (border_runs s side h g) n (λ u v hu hv. cell_balanced s side g h u v),
      square_three (side_runs s side g h) (coarse_runs s side h g) (fine_runs s side h g) n,
      square_three (side_runs s side h g) (coarse_runs s side g h) (fine_runs s side g h) n,
    )
