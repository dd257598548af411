pub mod First
pub mod NamedSides
pub mod Parts
pub mod Counted
pub mod Lengths
pub mod Passing
pub mod Usable
pub mod PointReads
