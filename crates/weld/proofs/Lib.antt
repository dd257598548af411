pub mod Pinned
pub mod WindowCorners
