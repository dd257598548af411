pub mod Holding
pub mod Reading
