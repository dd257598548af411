-- what is proved of the definition
pub mod Theorems
-- how it is proved
pub mod OneSide
