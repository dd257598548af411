pub mod Sheets
pub mod RowPlaces
pub mod Marks
pub mod Pairs
pub mod PairLaws
pub mod Faces
pub mod Numbers
-- laws of rows and of the lines that they lie on
pub mod Rows
pub mod Lines
pub mod Fine
pub mod CutCells
