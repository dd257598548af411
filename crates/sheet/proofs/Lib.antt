pub mod CellCounts
pub mod Counted
pub mod Parts
pub mod Pinned
pub mod Whole
