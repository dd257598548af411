-- T6: a border edge is listed exactly if it crosses; a u or v step is asked only on the low border, never both, and the same edge on the high
-- border is new with the same index. With T5's reuse index below 10, and points below 13. Places along u and v are in fine steps: 0 is the low
-- border and 2 the high one.
use Rattle.std.specs.Prelude.{◌≡◌, Bool, ℕ, ◌+◌, ◌*◌, ◌<◌, T, eqb, leb, ltb}
use Rattle.std.proofs.Common.{eqb→eq, leb→le, ltb→lt}
use Rattle.tables.specs.Codes.{point_a, point_b, step_x, step_y, is_new, reuse_index}
use Rattle.laws.specs.Tests.{eq→eqb, both, both_left, both_right, both_of, either, then, then_holds, below, all₂}
use Rattle.laws.specs.Counting.{one, has, every, every_item}
use Rattle.tables.specs.Listed.{crosses, times_listed}
use Rattle.tables.specs.Points.{point_u, point_v, point_face, transition_inside}
use Rattle.tables.specs.Cases.{transition_code, transition_vertices}
use Rattle.tables.specs.RulesTransition.{transition_used, transition_edges}
use Rattle.tables.proofs.RulesTransition.{transition_lists}
use Rattle.tables.specs.RulesBorder.{along, border_edge, transition_new_code, kept, Moved, SameEdge, NewWith, TransitionCode}

-- ---- a border edge is listed exactly if it crosses

border_edges : T (below (λ p. below (λ q. then (border_edge p q) (has (16 * p + q) transition_edges)) 13) 13)
unfolding transition_edges point_u point_v point_face both either then along border_edge
border_edges = tt

pub border_listed : (case p q : ℕ) → case < 512 → p < 13 → q < 13 → T (border_edge p q)
    → times_listed (transition_code case) (transition_vertices case) (16 * p + q) ≡ one (crosses (transition_inside case) (16 * p + q))
border_listed case p q hc hp hq b =
    transition_lists.exactly case (16 * p + q) hc
    (then_holds (border_edge p q) _ (all₂ (λ p q. then (border_edge p q) (has (16 * p + q) transition_edges)) 13 13 border_edges p q hp hq) b)

-- ---- the tests

unfoldable moved_test : ℕ → ℕ → ℕ → ℕ → Bool
moved_test stepU stepV p q =
    both (eqb (point_u p + 2 * stepU) (point_u q)) (both (eqb (point_v p + 2 * stepV) (point_v q)) (eqb (point_face p) (point_face q)))

unfoldable same_edge_test : ℕ → ℕ → Bool
same_edge_test code high =
    both (moved_test (step_x code) (step_y code) (point_a code) (point_a high)) (moved_test (step_x code) (step_y code) (point_b code) (point_b high))

unfoldable new_test : ℕ → ℕ → Bool
new_test index code = both (eqb (is_new code) 1) (eqb (reuse_index code) index)

unfoldable code_test : ℕ → Bool
code_test code =
    both (both (ltb (point_a code) 13) (both (ltb (point_b code) 13) (ltb (reuse_index code) 10)))
    (both (leb (kept code) 1)
    (both (then (eqb (step_x code) 1) (both (eqb (point_u (point_a code)) 0) (eqb (point_u (point_b code)) 0)))
    (both (then (eqb (step_y code) 1) (both (eqb (point_v (point_a code)) 0) (eqb (point_v (point_b code)) 0)))
    (then (eqb (kept code) 1)
    (both (new_test (reuse_index code) (transition_new_code (reuse_index code))) (same_edge_test code (transition_new_code (reuse_index code))))))))

moved_told : (stepU stepV p q : ℕ) → T (moved_test stepU stepV p q) → Moved stepU stepV p q
unfolding moved_test
moved_told stepU stepV p q t =
    let t₁ = both_right _ _ t in
    record { u = eqb→eq _ _ (both_left _ _ t); v = eqb→eq _ _ (both_left _ _ t₁); face = eqb→eq _ _ (both_right _ _ t₁) }

edge_told : (code high : ℕ) → T (same_edge_test code high) → SameEdge code high
unfolding same_edge_test
edge_told code high t = record { a = moved_told _ _ _ _ (both_left _ _ t); b = moved_told _ _ _ _ (both_right _ _ t) }

new_told : (index code : ℕ) → T (new_test index code) → NewWith index code
unfolding new_test
new_told index code t = record { new = eqb→eq _ _ (both_left _ _ t); same_index = eqb→eq _ _ (both_right _ _ t) }

two_told : (a b : ℕ) → T (both (eqb a 0) (eqb b 0)) → (a ≡ 0) × (b ≡ 0)
two_told a b t = (eqb→eq _ _ (both_left _ _ t), eqb→eq _ _ (both_right _ _ t))

code_told : (code : ℕ) → T (code_test code) → TransitionCode code
unfolding code_test
code_told code t =
    let small = both_left _ _ t in
    let t₁ = both_right _ _ t in
    let t₂ = both_right _ _ t₁ in
    let t₃ = both_right _ _ t₂ in
    record {
      a_small = ltb→lt _ _ (both_left _ _ small);
      b_small = ltb→lt _ _ (both_left _ _ (both_right _ _ small));
      index_small = ltb→lt _ _ (both_right _ _ (both_right _ _ small));
      one_way = leb→le _ _ (both_left _ _ t₁);
      low_u = λ e. two_told _ _ (then_holds (eqb (step_x code) 1) _ (both_left _ _ t₂) (eq→eqb _ _ e));
      low_v = λ e. two_told _ _ (then_holds (eqb (step_y code) 1) _ (both_left _ _ t₃) (eq→eqb _ _ e));
      slot = λ e.
          let s = then_holds (eqb (kept code) 1) _ (both_right _ _ t₃) (eq→eqb _ _ e) in
          (new_told _ _ (both_left _ _ s), edge_told _ _ (both_right _ _ s));
    }

codes_right : T (every code_test transition_used)
unfolding transition_used transition_new_code point_u point_v point_face both then moved_test same_edge_test new_test code_test
codes_right = tt

pub transition_used_right : (code : ℕ) → T (has code transition_used) → TransitionCode code
transition_used_right code h = code_told code (every_item code_test transition_used codes_right code h)

pub transition_code_right : (case i : ℕ) → case < 512 → i < transition_vertices case → TransitionCode (transition_code case i)
transition_code_right case i hc hi = transition_used_right (transition_code case i) (transition_lists.is_used case i hc hi)

-- ---- the same edge on the high border

unfoldable high_test : ℕ → ℕ → Bool
high_test code high = then (both (eqb (step_x code + step_y code) 1) (same_edge_test code high)) (new_test (reuse_index code) high)

highs_right : T (every (λ code. every (high_test code) transition_used) transition_used)
unfolding transition_used point_u point_v point_face both then moved_test same_edge_test new_test high_test
highs_right = tt

moved_test_lem : (stepU stepV p q : ℕ) → Moved stepU stepV p q → T (moved_test stepU stepV p q)
unfolding moved_test
moved_test_lem stepU stepV p q m = both_of _ _ (eq→eqb _ _ m.u) (both_of _ _ (eq→eqb _ _ m.v) (eq→eqb _ _ m.face))

pub high_border : (code high : ℕ) → T (has code transition_used) → T (has high transition_used) → step_x code + step_y code ≡ 1
    → SameEdge code high → NewWith (reuse_index code) high
unfolding high_test same_edge_test
high_border code high hc hh step same =
    new_told _ _
    (then_holds (both (eqb (step_x code + step_y code) 1) (same_edge_test code high)) _
    (every_item (high_test code) transition_used (every_item (λ code. every (high_test code) transition_used) transition_used highs_right code hc) high hh)
    (both_of _ _ (eq→eqb _ _ step) (both_of _ _ (moved_test_lem _ _ _ _ same.a) (moved_test_lem _ _ _ _ same.b))))
