-- what a reader must believe
pub mod Answers
pub mod Definition
-- what the code is proved by
pub mod Leaves
pub mod Kept
pub mod Seen
pub mod Closing
pub mod Corners
-- what a pass that welds leaves
pub mod Welded
