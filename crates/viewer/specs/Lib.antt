pub mod Lines
pub mod NamedSides
pub mod Packed
pub mod Points
