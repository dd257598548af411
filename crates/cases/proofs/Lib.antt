mod Marking
mod Each
pub mod Pinned
pub mod RowPlaces
