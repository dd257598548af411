-- what a reader must believe
pub mod Answers
pub mod Definition
pub mod Neighbours
-- what the code is proved by
pub mod Lists
pub mod Known
pub mod Squares
pub mod Slots
pub mod Boxes
pub mod Putting
pub mod Whole
pub mod Passing
-- what holds of cut blocks
pub mod Blocks
pub mod Finer
