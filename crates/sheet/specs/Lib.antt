-- what a reader must believe
pub mod Answers
pub mod Definition
pub mod Rows
-- the figures and the mesh
pub mod Grids
pub mod Crossed
-- a run
pub mod Runs
pub mod Sizes
pub mod Totals
-- how the figures are worked out
pub mod Faces
pub mod Planes
pub mod Fine
