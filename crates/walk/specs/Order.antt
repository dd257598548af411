-- The cells as both passes come to them, by name: a sheet of them as it is lent, and the mesh before and after its rows. One set of names
-- serves both kinds of cell.
use Rattle.std.specs.Prelude.{ℕ, ◌+◌, ◌≤◌, ◌<◌, ◌≡◌, true, List, length, get_or}
use Rattle.laws.specs.Steps.{iterate}
use Rattle.model.specs.Limits.{most_subdivisions, side_count}
use Rattle.model.specs.Sides.{named}
use Rattle.model.specs.Star.{Star, subdivisions}
use Rattle.model.specs.Mesh.{Cell, Mesh, cell_step, regular_layer, regular_to, transition_side, transition_to}
use Rattle.cases.specs.Sheets.{row_start, sheet_places, Sheet}
use Rattle.cases.specs.Marks.{mark_of}
use Rattle.cells.specs.declared.SheetIndex.{SheetIndex}
use Rattle.cells.specs.declared.SheetIndex.TheVariants.{Layer, Side}
use Rattle.cells.specs.declared.sheet_cells.LentSheet.{LentSheet}
use Rattle.cells.specs.SheetCells.{sheet_of, sheet_cell, case_at, all_of}
use Rattle.cells.specs.LentSheets.{layer_numbers, side_numbers}

-- it is one of the block's layers, or of its named sides
abbrev pub SheetIn : Star → SheetIndex → Type 0
SheetIn s (Layer x) = x < subdivisions s
SheetIn s (Side side) = (side < side_count) × (named s.mask side ≡ true)

-- the sheet and its marks as they are lent: as long as sheets are, and each number one of its table's
pub record Sheeted (n : ℕ) (sheet : SheetIndex) (layer side marks : List ℕ) : Type 0 where
  pub few : n ≤ most_subdivisions
  pub long : length (sheet_of sheet layer side) ≡ sheet_places
  pub marks_long : length marks ≡ sheet_places
  pub number_at : (u v : ℕ) → u < n → v < n → get_or (sheet_of sheet layer side) (row_start n u + v) 0 ≤ all_of sheet

-- they hold the case numbers of its cells, and mark those that are cut
pub record Held (s : Star) (sheet : SheetIndex) (n : ℕ) (layer side marks : List ℕ) : Type 0 where
  pub numbers : Sheet (case_at s sheet) n n (sheet_of sheet layer side)
  pub marked : Sheet (λ u v. mark_of (all_of sheet) (case_at s sheet u v)) n n marks

-- the same of a sheet as it is lent with its numbers
abbrev pub LentSheeted : ℕ → LentSheet → Type 0
LentSheeted n sheet = Sheeted n sheet.index (layer_numbers sheet.numbers) (side_numbers sheet.numbers) sheet.marks.now

abbrev pub LentHeld : Star → ℕ → LentSheet → Type 0
LentHeld s n sheet = Held s sheet.index n (layer_numbers sheet.numbers) (side_numbers sheet.numbers) sheet.marks.now

-- the steps of all its cells, and the mesh before them and after them
abbrev pub whole_sheet : Star → SheetIndex → Mesh → Mesh
whole_sheet s (Layer x) = regular_layer s x
whole_sheet s (Side side) = transition_side s side

abbrev pub sheet_before : Star → SheetIndex → Mesh
sheet_before s (Layer x) = regular_to s x 0 0
sheet_before s (Side side) = transition_to s side 0 0

abbrev pub sheet_after : Star → SheetIndex → Mesh
sheet_after s (Layer x) = regular_to s (x + 1) 0 0
sheet_after s (Side side) = transition_to s (side + 1) 0 0

-- the steps of the first cells of a row, and of the first rows of a sheet
abbrev pub row_to : (ℕ → Cell) → ℕ → Mesh → Mesh
row_to cell = iterate (λ v. cell_step (cell v))

abbrev pub rows_to : (ℕ → ℕ → Cell) → ℕ → ℕ → Mesh → Mesh
rows_to cell n = iterate (λ u. row_to (cell u) n)

-- the mesh before row u of a sheet
abbrev pub row_before : Star → SheetIndex → ℕ → Mesh
row_before s sheet u = rows_to (sheet_cell s sheet) (subdivisions s) u (sheet_before s sheet)
