pub mod Orders
pub mod Floats
pub mod Puts
pub mod Folds
