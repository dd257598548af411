pub mod Answers
pub mod Pinned
