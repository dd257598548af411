-- what a reader must believe
pub mod Answers
pub mod Damaged
pub mod Definition
-- what the code is proved by
pub mod Spots
pub mod Listed
pub mod Filled
pub mod Faces
pub mod Apart
pub mod Told
pub mod Passing
-- what holds of a repair
pub mod Judged
pub mod Repairs
pub mod Outcomes
