pub mod Puts
pub mod Rows
pub mod SheetCells
pub mod LentSheets
pub mod Fills
pub mod Edges
pub mod Uncut
pub mod SheetNumbers
