-- T5: each listed edge crosses, points 9..12 taking the sides of 0,2,6,8. `transition_lists` says more: the used codes are sixteen, and of their edges
-- a case lists exactly those that cross, each once; that a listed edge crosses is `differ transition_lists`. That reuse indices are below 10 stands
-- in RulesBorder.
use Rattle.std.specs.Prelude.{Bool, ℕ, T}
use Rattle.tables.specs.Codes.{edge_of}
use Rattle.laws.specs.Tests.{both, below, all}
use Rattle.laws.specs.Counting.{has, every, every_item}
use Rattle.tables.specs.Listed.{Listing, row_test, row_used, row_exactly}
use Rattle.tables.specs.Points.{fine_of, transition_inside}
use Rattle.tables.specs.TransitionRows as transition
use Rattle.tables.specs.Cases.{transition_class, transition_codes, transition_cell, transition_code, transition_vertices}
use Rattle.tables.specs.RulesTransition.{transition_used, transition_edges}

unfoldable case_test : ℕ → Bool
case_test case = row_test transition_used transition_edges (transition_inside case) (transition_codes case) (transition_vertices case)

cases_right : T (below case_test 512)
unfolding transition.classes transition.cell_rows transition.vertex_rows transition_class transition_cell transition_codes transition_vertices fine_of transition_inside transition_used transition_edges both row_test case_test
cases_right = tt

used_have_edges : T (every (λ c. has (edge_of c) transition_edges) transition_used)
unfolding transition_used transition_edges both
used_have_edges = tt

pub transition_lists : Listing 512 transition_used transition_edges transition_inside transition_code transition_vertices
unfolding transition_code case_test
transition_lists = record {
  is_used = λ case i hc hi. row_used transition_used transition_edges (transition_inside case) (transition_codes case) (transition_vertices case) (all case_test 512 cases_right case hc) i hi;
  is_edge = every_item (λ c. has (edge_of c) transition_edges) transition_used used_have_edges;
  exactly = λ case e hc he. row_exactly transition_used transition_edges (transition_inside case) (transition_codes case) (transition_vertices case) (all case_test 512 cases_right case hc) e he;
}
