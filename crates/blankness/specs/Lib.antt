-- on small blocks
pub mod Shown
-- how it is proved
pub mod Weights
pub mod Linked
pub mod Counted
pub mod OneSide
