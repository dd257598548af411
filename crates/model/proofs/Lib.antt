pub mod MeshReads
pub mod LayeredReads
pub mod Pinned
