-- The law at the finer face, for each of the 512 cases, with no exception. What a transition cell shows on a border depends on the border's three fine
-- points alone, and the two cells at a border show opposite sides there. What it shows on its coarse face depends on the four corners alone, up to sides
-- that cancel within the cell, and is the opposite of what the regular cell behind shows, whichever way the one is laid on the other. All other sides
-- cancel within the cell or lie on the fine face.
use Rattle.std.specs.Prelude.{◌≡◌, Bool, List, map, ℕ, ◌+◌, ◌-◌, ◌≤◌, ◌<◌, T}
use Rattle.std.proofs.Common.{subst, arith}
use Rattle.std.proofs.Math.Decide.{dec_lt}
use Rattle.laws.specs.Tests.{both, either, below, all, all₂}
use Rattle.laws.specs.Counting.{only, matches, matched, weighed}
use Rattle.tables.specs.Corners.{bit, regular_edges}
use Rattle.tables.specs.Points.{fine_of, point_u, point_v, point_face, transition_inside}
use Rattle.tables.specs.Sides.{side, back, sides_of, row_sides, regular_sides, far_ends, near_edge, near_side, near_corner, spread, shown}
use Rattle.tables.specs.RegularRows as regular
use Rattle.tables.specs.TransitionRows as transition
use Rattle.tables.specs.Cases.{regular_class, regular_codes, regular_cell, transition_class, transition_codes, transition_cell, transition_turned}
use Rattle.tables.specs.RulesTransition.{transition_edges}
use Rattle.tables.specs.FinerSides.{transition_sides, fine_edge, across, low_edge, high_edge, low_side, high_side, low_point, high_point, low_bits, high_bits, spread_low, shown_low, coarse_edge, coarse_side, corner_bits, spread_corners, shown_coarse, common_border, on_fine, fine_side, lows, highs, coarses, in_of, out_of, finer_in, finer_out, laid_on, undone, edge_between, laid_edge, laid_side, laid_bits, mirrored}
use Rattle.tables.specs.RulesFiner.{seen}

-- ---- a cell

unfoldable flow_test : List ℕ → List ℕ → List ℕ → List ℕ → List ℕ → List ℕ → Bool
unfolding transition.classes transition.cell_rows transition.vertex_rows transition_class transition_codes transition_cell transition_turned transition_edges side back sides_of row_sides bit fine_of point_u point_v point_face transition_inside transition_sides only fine_edge across low_edge high_edge low_side high_side low_point high_point low_bits high_bits spread_low shown_low coarse_edge coarse_side corner_bits spread_corners shown_coarse common_border on_fine fine_side lows highs coarses in_of out_of both either
flow_test sides highU lowU highV lowV coarse = matches (in_of sides highU lowU highV lowV coarse) (out_of sides highU lowU highV lowV coarse)

unfoldable case_test : ℕ → Bool
case_test case = flow_test (transition_sides case) (highs 0 case) (lows 0 case) (highs 1 case) (lows 1 case) (coarses case)

-- in four parts: a declaration that computes all 512 at once takes twice the memory
flows_first : T (below (λ k. case_test (0 + k)) 128)
unfolding flow_test case_test
flows_first = tt

flows_second : T (below (λ k. case_test (128 + k)) 128)
unfolding flow_test case_test
flows_second = tt

flows_third : T (below (λ k. case_test (256 + k)) 128)
unfolding flow_test case_test
flows_third = tt

flows_fourth : T (below (λ k. case_test (384 + k)) 128)
unfolding flow_test case_test
flows_fourth = tt

part_told : (from : ℕ) → T (below (λ k. case_test (from + k)) 128) → (case : ℕ) → from ≤ case → case < from + 128 → T (case_test case)
part_told from t case low high =
    let e : from + (case - from) ≡ case = omega arith in
    subst (λ (k : ℕ). T (case_test k)) e (all (λ k. case_test (from + k)) 128 t (case - from) (omega arith))

flows_match : (case : ℕ) → case < 512 → T (case_test case)
flows_match case h = go (dec_lt case 128) (dec_lt case 256) (dec_lt case 384)
  where
    go : Dec (case < 128) → Dec (case < 256) → Dec (case < 384) → T (case_test case)
    go (yes a) b c = part_told 0 flows_first case (omega arith) (omega arith)
    go (no a) (yes b) c = part_told 128 flows_second case (omega arith) (omega arith)
    go (no a) (no b) (yes c) = part_told 256 flows_third case (omega arith) (omega arith)
    go (no a) (no b) (no c) = part_told 384 flows_fourth case (omega arith) (omega arith)

-- whatever a side weighs
pub finer_balanced : (weight : ℕ → ℕ) (case : ℕ) → case < 512 → weighed weight (finer_in case) ≡ weighed weight (finer_out case)
unfolding case_test flow_test finer_in finer_out
finer_balanced weight case h = matched weight (finer_in case) (finer_out case) (flows_match case h)

-- ---- its coarse face on a face of a regular cell

unfoldable laid_test : ℕ → ℕ → ℕ → Bool
unfolding regular.classes regular.cell_rows regular.vertex_rows regular_class regular_codes regular_cell transition.classes transition.cell_rows transition.vertex_rows transition_class transition_codes transition_cell transition_turned transition_edges side back sides_of row_sides regular_sides bit regular_edges far_ends near_edge near_side near_corner spread shown fine_of point_face transition_inside transition_sides only fine_edge coarse_edge coarse_side spread_corners shown_coarse laid_on undone edge_between laid_edge laid_side laid_bits mirrored both
laid_test d p f = matches (map (laid_side d p) (shown_coarse f)) (seen d p (shown d (laid_bits p f)))

all_laid : T (below (λ d. below (λ p. below (laid_test d p) 16) 8) 3)
unfolding laid_test
all_laid = tt

pub coarse_laid : (weight : ℕ → ℕ) (d p f : ℕ) → d < 3 → p < 8 → f < 16
    → weighed weight (map (laid_side d p) (shown_coarse f)) ≡ weighed weight (seen d p (shown d (laid_bits p f)))
unfolding laid_test
coarse_laid weight d p f hd hp hf =
    matched weight (map (laid_side d p) (shown_coarse f)) (seen d p (shown d (laid_bits p f)))
    (all (laid_test d p) 16 (all₂ (λ d p. below (laid_test d p) 16) 3 8 all_laid d p hd hp) f hf)
