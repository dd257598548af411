-- The six arrays as the code holds them, rows end to end, and what a lent array that is the table has: its rows by case number.
use Rattle.std.specs.Prelude.{◌≡◌, List, ℕ, ◌*◌, ◌%◌, ◌<◌, length, get_or, take, drop}
use Rattle.std.proofs.Common.{◌∙◌, ap}
use Rattle.laws.specs.Tests.{both}
use Rattle.tables.specs.Flat.{joined, row_of, row_wide}
use Rattle.tables.specs.Cases.{regular_class, regular_codes, regular_cell, transition_class, transition_codes, transition_cell}
use Rattle.tables.specs.RegularRows as regular
use Rattle.tables.specs.TransitionRows as transition

unfoldable pub regular_cell_class : List ℕ
regular_cell_class = regular.classes

unfoldable pub regular_cell_data : List ℕ
regular_cell_data = joined regular.cell_rows

unfoldable pub regular_vertex_data : List ℕ
regular_vertex_data = joined regular.vertex_rows

unfoldable pub transition_cell_class : List ℕ
transition_cell_class = transition.classes

unfoldable pub transition_cell_data : List ℕ
transition_cell_data = joined transition.cell_rows

unfoldable pub transition_vertex_data : List ℕ
transition_vertex_data = joined transition.vertex_rows

-- ---- the lengths of lent arrays

pub regular_class_length : (classes : List ℕ) → classes ≡ regular_cell_class → length classes ≡ 256
unfolding regular_cell_class regular.classes
regular_class_length classes e = ap (λ (l : List ℕ). length l) e

pub regular_data_length : (cells : List ℕ) → cells ≡ regular_cell_data → length cells ≡ 256
unfolding regular_cell_data regular.cell_rows
regular_data_length cells e = ap (λ (l : List ℕ). length l) e

pub regular_codes_length : (codes : List ℕ) → codes ≡ regular_vertex_data → length codes ≡ 3072
unfolding regular_vertex_data regular.vertex_rows
regular_codes_length codes e = ap (λ (l : List ℕ). length l) e

pub transition_class_length : (classes : List ℕ) → classes ≡ transition_cell_class → length classes ≡ 512
unfolding transition_cell_class transition.classes
transition_class_length classes e = ap (λ (l : List ℕ). length l) e

pub transition_data_length : (cells : List ℕ) → cells ≡ transition_cell_data → length cells ≡ 2072
unfolding transition_cell_data transition.cell_rows
transition_data_length cells e = ap (λ (l : List ℕ). length l) e

pub transition_codes_length : (codes : List ℕ) → codes ≡ transition_vertex_data → length codes ≡ 6144
unfolding transition_vertex_data transition.vertex_rows
transition_codes_length codes e = ap (λ (l : List ℕ). length l) e

-- ---- regular cells

pub regular_class_at : (classes : List ℕ) (case : ℕ) → classes ≡ regular_cell_class → get_or classes case 0 ≡ regular_class case
unfolding regular_cell_class regular_class
regular_class_at classes case e = ap (λ (l : List ℕ). get_or l case 0) e

pub regular_codes_at : (codes : List ℕ) (case : ℕ) → codes ≡ regular_vertex_data → case < 256 → take 12 (drop (case * 12) codes) ≡ regular_codes case
unfolding regular_vertex_data regular.vertex_rows regular_codes both
regular_codes_at codes case e h = ap (λ (l : List ℕ). take 12 (drop (case * 12) l)) e ∙ row_of 12 regular.vertex_rows tt case h

pub regular_codes_long : (case : ℕ) → case < 256 → length (regular_codes case) ≡ 12
unfolding regular.vertex_rows regular_codes both
regular_codes_long case h = row_wide 12 regular.vertex_rows tt case h

pub regular_cell_at : (cells : List ℕ) (case : ℕ) → cells ≡ regular_cell_data → regular_class case < 16
    → take 16 (drop (regular_class case * 16) cells) ≡ regular_cell case
unfolding regular_cell_data regular.cell_rows regular_cell both
regular_cell_at cells case e h =
    ap (λ (l : List ℕ). take 16 (drop (regular_class case * 16) l)) e ∙ row_of 16 regular.cell_rows tt (regular_class case) h

pub regular_cell_long : (case : ℕ) → regular_class case < 16 → length (regular_cell case) ≡ 16
unfolding regular.cell_rows regular_cell both
regular_cell_long case h = row_wide 16 regular.cell_rows tt (regular_class case) h

-- ---- transition cells

pub transition_class_at : (classes : List ℕ) (case : ℕ) → classes ≡ transition_cell_class → get_or classes case 0 ≡ transition_class case
unfolding transition_cell_class transition_class
transition_class_at classes case e = ap (λ (l : List ℕ). get_or l case 0) e

pub transition_codes_at : (codes : List ℕ) (case : ℕ) → codes ≡ transition_vertex_data → case < 512
    → take 12 (drop (case * 12) codes) ≡ transition_codes case
unfolding transition_vertex_data transition.vertex_rows transition_codes both
transition_codes_at codes case e h = ap (λ (l : List ℕ). take 12 (drop (case * 12) l)) e ∙ row_of 12 transition.vertex_rows tt case h

pub transition_codes_long : (case : ℕ) → case < 512 → length (transition_codes case) ≡ 12
unfolding transition.vertex_rows transition_codes both
transition_codes_long case h = row_wide 12 transition.vertex_rows tt case h

pub transition_cell_at : (cells : List ℕ) (case : ℕ) → cells ≡ transition_cell_data → transition_class case % 128 < 56
    → take 37 (drop (transition_class case % 128 * 37) cells) ≡ transition_cell case
unfolding transition_cell_data transition.cell_rows transition_cell both
transition_cell_at cells case e h =
    ap (λ (l : List ℕ). take 37 (drop (transition_class case % 128 * 37) l)) e ∙ row_of 37 transition.cell_rows tt (transition_class case % 128) h

pub transition_cell_long : (case : ℕ) → transition_class case % 128 < 56 → length (transition_cell case) ≡ 37
unfolding transition.cell_rows transition_cell both
transition_cell_long case h = row_wide 37 transition.cell_rows tt (transition_class case % 128) h
