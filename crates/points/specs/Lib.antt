pub mod Fractions
pub mod Positions
pub mod Steps
pub mod StepKinds
pub mod CellPoints
pub mod Grids
