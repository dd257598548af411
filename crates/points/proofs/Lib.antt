pub mod Literals
pub mod Shrinking
pub mod Steps
pub mod StepReads
pub mod Insides
pub mod Pinned
