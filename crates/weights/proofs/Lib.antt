-- that it holds
pub mod Weights
pub mod BothEnds
-- how it is proved
pub mod Weighing
pub mod Segments
pub mod Ends
pub mod EveryVertex
