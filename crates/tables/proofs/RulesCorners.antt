-- T3: triangle corners are below the vertex count, in both tables; with the counts and classes that the mesher relies on. One test of a class's
-- row of cell data serves both tables.
use Rattle.std.specs.Prelude.{Bool, List, ℕ, ◌*◌, ◌%◌, ◌<◌, T, ltb, leb}
use Rattle.std.proofs.Common.{ltb→lt, leb→le}
use Rattle.laws.specs.Tests.{both, both_left, both_right, below, all}
use Rattle.tables.specs.RegularRows as regular
use Rattle.tables.specs.TransitionRows as transition
use Rattle.tables.specs.Cases.{vertices_of, triangles_of, corner_of, regular_class, regular_cell, regular_vertices, regular_triangles, regular_corner, transition_class, transition_cell, transition_vertices, transition_triangles, transition_corner}
use Rattle.tables.specs.RulesCorners.{CellRight}

unfoldable cell_test : ℕ → List ℕ → Bool
cell_test most cell =
    both (leb (vertices_of cell) 12)
    (both (leb (triangles_of cell) most)
    (below (λ j. ltb (corner_of cell j) (vertices_of cell)) (3 * triangles_of cell)))

cell_told : (most : ℕ) (cell : List ℕ) → T (cell_test most cell) → CellRight most (vertices_of cell) (triangles_of cell) (corner_of cell)
unfolding cell_test
cell_told most cell t =
    let t₁ = both_right _ _ t in
    record {
      vertices_most = leb→le _ _ (both_left _ _ t);
      triangles_most = leb→le _ _ (both_left _ _ t₁);
      corner_below = λ j h. ltb→lt _ _ (all (λ j. ltb (corner_of cell j) (vertices_of cell)) (3 * triangles_of cell) (both_right _ _ t₁) j h);
    }

-- ---- regular cells

regular_cells_right : T (below (λ case. cell_test 5 (regular_cell case)) 256)
unfolding regular.classes regular.cell_rows regular_class regular_cell both cell_test
regular_cells_right = tt

pub regular_cell_right : (case : ℕ) → case < 256 → CellRight 5 (regular_vertices case) (regular_triangles case) (regular_corner case)
unfolding regular_vertices regular_triangles regular_corner
regular_cell_right case h = cell_told 5 (regular_cell case) (all (λ case. cell_test 5 (regular_cell case)) 256 regular_cells_right case h)

regular_classes_small : T (below (λ case. ltb (regular_class case) 16) 256)
unfolding regular.classes regular_class both
regular_classes_small = tt

pub regular_class_small : (case : ℕ) → case < 256 → regular_class case < 16
regular_class_small case h = ltb→lt _ _ (all (λ case. ltb (regular_class case) 16) 256 regular_classes_small case h)

-- ---- transition cells

transition_cells_right : T (below (λ case. cell_test 12 (transition_cell case)) 512)
unfolding transition.classes transition.cell_rows transition_class transition_cell both cell_test
transition_cells_right = tt

pub transition_cell_right : (case : ℕ) → case < 512
    → CellRight 12 (transition_vertices case) (transition_triangles case) (transition_corner case)
unfolding transition_vertices transition_triangles transition_corner
transition_cell_right case h = cell_told 12 (transition_cell case) (all (λ case. cell_test 12 (transition_cell case)) 512 transition_cells_right case h)

transition_classes_small : T (below (λ case. ltb (transition_class case % 128) 56) 512)
unfolding transition.classes transition_class both
transition_classes_small = tt

pub transition_class_small : (case : ℕ) → case < 512 → transition_class case % 128 < 56
transition_class_small case h = ltb→lt _ _ (all (λ case. ltb (transition_class case % 128) 56) 512 transition_classes_small case h)
