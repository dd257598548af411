-- what is said
pub mod Units
pub mod Clauses
-- how it is proved
pub mod Rounding
pub mod Values
pub mod Operations
pub mod Small
pub mod Weighing
pub mod Coordinates
pub mod Samples
-- how sharp it is
pub mod Sharp
