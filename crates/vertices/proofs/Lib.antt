mod Inners
pub mod Pinned
