-- that it holds
pub mod NoGap
pub mod Vertices
-- how: the labelled mesh, cell by cell
pub mod SideStored
pub mod SideVertices
pub mod SideWhole
-- the sides that the cells add, and what stays of them
pub mod SideFlux
pub mod SideCounted
pub mod Apart
pub mod Quiet
pub mod Borders
-- the coarse faces against the regular cells
pub mod Faces
pub mod CoarseFaces
-- what it rules out
pub mod Refuted
