-- T1: used regular codes are the twelve: `used_exactly`. T2: a regular case lists exactly its crossing edges, each once: `regular_lists`, by case
-- number and position. What follows stands in Listed: `differ regular_lists`, the two ends of a listed code differ; `crossing regular_lists`, a crossing
-- edge has a position; `once regular_lists`, only one.
use Rattle.std.specs.Prelude.{◌↔◌, Bool, ℕ, ◌^◌, T, eqb, leb, ltb}
use Rattle.std.proofs.Common.{subst, eqb→eq, leb→le, ltb→lt}
use Rattle.laws.specs.Tests.{both, both_left, both_right, below, all}
use Rattle.laws.specs.Counting.{how_many, which, has, every, every_item}
use Rattle.tables.specs.Codes.{point_a, edge_of}
use Rattle.tables.specs.Corners.{bit, regular_inside, regular_used, regular_edges}
use Rattle.tables.specs.Listed.{Listing, row_test, row_used, row_exactly}
use Rattle.tables.specs.RegularRows as regular
use Rattle.tables.specs.Cases.{regular_class, regular_codes, regular_cell, regular_code, regular_vertices}
use Rattle.tables.specs.RulesEdges.{Used}

unfoldable case_test : ℕ → Bool
case_test case = row_test regular_used regular_edges (regular_inside case) (regular_codes case) (regular_vertices case)

cases_right : T (below case_test 256)
unfolding regular.classes regular.cell_rows regular.vertex_rows regular_class regular_cell regular_codes regular_vertices bit regular_used regular_edges both row_test case_test
cases_right = tt

used_have_edges : T (every (λ c. has (edge_of c) regular_edges) regular_used)
unfolding regular_used regular_edges both
used_have_edges = tt

pub regular_lists : Listing 256 regular_used regular_edges regular_inside regular_code regular_vertices
unfolding regular_code case_test
regular_lists = record {
  is_used = λ case i hc hi. row_used regular_used regular_edges (regular_inside case) (regular_codes case) (regular_vertices case) (all case_test 256 cases_right case hc) i hi;
  is_edge = every_item (λ c. has (edge_of c) regular_edges) regular_used used_have_edges;
  exactly = λ case e hc he. row_exactly regular_used regular_edges (regular_inside case) (regular_codes case) (regular_vertices case) (all case_test 256 cases_right case hc) e he;
}

-- ---- T1: a code is one of the twelve exactly if a case uses it

-- the case with the code's point a alone inside uses it
unfoldable occurs_test : ℕ → Bool
occurs_test code =
    let case = 2 ^ point_a code in
    both (ltb case 256) (leb 1 (how_many (λ i. eqb (regular_code case i) code) (regular_vertices case)))

all_occur : T (every occurs_test regular_used)
unfolding regular.classes regular.cell_rows regular.vertex_rows regular_class regular_cell regular_codes regular_code regular_vertices regular_used both occurs_test
all_occur = tt

occurs : (code : ℕ) → T (has code regular_used) → Used code
unfolding occurs_test
occurs code h =
    let t = every_item occurs_test regular_used all_occur code h in
    let w = which (λ i. eqb (regular_code (2 ^ point_a code) i) code) (regular_vertices (2 ^ point_a code)) (leb→le _ _ (both_right _ _ t)) in
    record {
      case = 2 ^ point_a code;
      position = w.0;
      case_small = ltb→lt _ _ (both_left _ _ t);
      position_small = w.1;
      there = eqb→eq _ _ w.2;
    }

pub used_exactly : (code : ℕ) → T (has code regular_used) ↔ Used code
used_exactly code = (
  occurs code,
  λ u. subst (λ (c : ℕ). T (has c regular_used)) u.there (regular_lists.is_used u.case u.position u.case_small u.position_small),
)
