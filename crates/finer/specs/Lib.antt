-- what is proved
pub mod Labels
pub mod Clauses
-- how: the labelled mesh, cell by cell
pub mod Walk
pub mod SideLabels
pub mod SideStored
pub mod InStep
-- the sides that the cells add
pub mod SideFlux
-- the coarse faces against the regular cells
pub mod Planes
-- and of a mesh whose vertices are named anew
pub mod Renamed
-- what it rules out
pub mod Wrong
