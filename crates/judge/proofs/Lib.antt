pub mod Bounds
pub mod Pinned
