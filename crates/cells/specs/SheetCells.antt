-- A sheet's cells, one name for both kinds: the layer of regular cells at x, or the transition cells of a side. Definitions only.
use Rattle.std.specs.Prelude.{ℕ, ◌≡◌, Bool, false, ◌&&◌, List, ltb}
use Rattle.tables.specs.Arrays.{regular_cell_class, regular_cell_data, regular_vertex_data, transition_cell_class, transition_cell_data, transition_vertex_data}
use Rattle.tables.specs.Cases.{regular_codes, transition_codes, transition_turned}
use Rattle.tables.specs.Cases.{regular_cell as regularRow, transition_cell as transition_row}
use Rattle.model.specs.Star.{Star}
use Rattle.model.specs.Points.{regular_case, transition_case}
use Rattle.model.specs.Mesh.{Cell, regular_cell, transition_cell}
use Rattle.cases.specs.Marks.{all_regular, all_transition}
use Rattle.codes.specs.declared.CellIndex.{CellIndex}
use Rattle.codes.specs.declared.CellIndex.TheVariants.{Regular, Transition}
use Rattle.cells.specs.declared.SheetIndex.{SheetIndex}
use Rattle.cells.specs.declared.SheetIndex.TheVariants.{Layer, Side}

-- ---- its cells, in row j at k

abbrev pub cell_at : SheetIndex → ℕ → ℕ → CellIndex
cell_at (Layer x) j k = Regular record { x = x; y = j; z = k }
cell_at (Side side) j k = Transition record { side = side; u = j; v = k }

abbrev pub sheet_cell : Star → SheetIndex → ℕ → ℕ → Cell
sheet_cell s (Layer x) = regular_cell s x
sheet_cell s (Side side) = transition_cell s side

abbrev pub case_at : Star → SheetIndex → ℕ → ℕ → ℕ
case_at s (Layer x) = regular_case s x
case_at s (Side side) = transition_case s side

-- the case number with every point inside
abbrev pub all_of : SheetIndex → ℕ
all_of (Layer x) = all_regular
all_of (Side side) = all_transition

-- the sheet that has its case numbers: a layer's, or a side's
abbrev pub sheet_of : SheetIndex → List ℕ → List ℕ → List ℕ
sheet_of (Layer x) layer side = layer
sheet_of (Side at) layer side = side

-- a regular cell that touches no low face of the block
abbrev pub away_from_low : CellIndex → Bool
away_from_low (Regular at) = ltb 0 at.x && (ltb 0 at.y && ltb 0 at.z)
away_from_low (Transition at) = false

-- ---- the lent tables

abbrev pub class_array : SheetIndex → List ℕ
class_array (Layer x) = regular_cell_class
class_array (Side side) = transition_cell_class

abbrev pub cell_array : SheetIndex → List ℕ
cell_array (Layer x) = regular_cell_data
cell_array (Side side) = transition_cell_data

abbrev pub code_array : SheetIndex → List ℕ
code_array (Layer x) = regular_vertex_data
code_array (Side side) = transition_vertex_data

pub record Tables (sheet : SheetIndex) (classes cells codes : List ℕ) : Type 0 where
  pub classes_are : classes ≡ class_array sheet
  pub cells_are : cells ≡ cell_array sheet
  pub codes_are : codes ≡ code_array sheet

-- ---- the rows of a case

abbrev pub codes_of : SheetIndex → ℕ → List ℕ
codes_of (Layer x) case = regular_codes case
codes_of (Side side) case = transition_codes case

abbrev pub row_of : SheetIndex → ℕ → List ℕ
row_of (Layer x) case = regularRow case
row_of (Side side) case = transition_row case

abbrev pub turned_of : SheetIndex → ℕ → Bool
turned_of (Layer x) case = false
turned_of (Side side) case = transition_turned case
