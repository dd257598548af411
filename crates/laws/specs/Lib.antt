-- the words that other definitions are said in
pub mod Steps
-- what holds of them
pub mod Iterated
pub mod Lists
pub mod Laying
pub mod Filled
pub mod Gathered
pub mod Rounds
pub mod LaidBuffers
pub mod Sums
pub mod Squares
-- tests as Bools, and counting what passes one
pub mod Tests
pub mod Below
pub mod Counting
-- what tests and sums over a range come to
pub mod Ranges
-- bits of a number
pub mod Bits
pub mod Exits
