-- sums that come down to a border and to a rim
pub mod Sums
pub mod Squares
