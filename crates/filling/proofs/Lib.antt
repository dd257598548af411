pub mod Pinned
pub mod Values
