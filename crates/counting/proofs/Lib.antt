pub mod Growth
pub mod Pinned
