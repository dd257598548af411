pub mod Kinds
pub mod Staying
pub mod Rows
