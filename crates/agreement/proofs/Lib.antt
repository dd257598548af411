pub mod Walked
pub mod Pinned
