-- what a reader must believe
pub mod Answers
pub mod Definition
pub mod Files
-- what the code is proved by
pub mod Named
pub mod Numbers
pub mod Parts
pub mod Passing
-- what holds of files
pub mod Corners
pub mod Read
pub mod Written
pub mod RoundTrip
