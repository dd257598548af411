-- A sheet as it is lent, with the tables of its kind: the lists that it stands for, and a cell's rows by its case. Definitions only.
use Rattle.std.specs.Prelude.{ℕ, ◌≡◌, List, []}
use Rattle.codes.specs.declared.CellRows.{CellRows}
use Rattle.cells.specs.declared.SheetIndex.{SheetIndex}
use Rattle.cells.specs.declared.sheet_cells.CaseNumbers.{CaseNumbers}
use Rattle.cells.specs.declared.sheet_cells.CaseNumbers.TheVariants.{Bytes, Words}
use Rattle.cells.specs.declared.sheet_cells.LentSheet.{LentSheet}
use Rattle.cells.specs.SheetCells.{Tables, cell_at, sheet_of, codes_of, row_of, turned_of}

-- the numbers, as a layer's and as a side's: the other kind has none
abbrev pub layer_numbers : CaseNumbers → List ℕ
layer_numbers (Bytes numbers) = numbers.now
layer_numbers (Words numbers) = []

abbrev pub side_numbers : CaseNumbers → List ℕ
side_numbers (Bytes numbers) = []
side_numbers (Words numbers) = numbers.now

abbrev pub numbers_of : LentSheet → List ℕ
numbers_of sheet = sheet_of sheet.index (layer_numbers sheet.numbers) (side_numbers sheet.numbers)

abbrev pub HasTables : LentSheet → Type 0
HasTables sheet = Tables sheet.index sheet.tables.classes.now sheet.tables.cells.now sheet.tables.codes.now

-- the rows of the cell in row u, at v, by its case
pub record RowsOf (sheet : SheetIndex) (case u v : ℕ) (rows : CellRows) : Type 0 where
  pub at_is : rows.at ≡ cell_at sheet u v
  pub codes_are : rows.codes.now ≡ codes_of sheet case
  pub row_is : rows.row.now ≡ row_of sheet case
  pub turned_is : rows.turned ≡ turned_of sheet case
