pub mod Pinned
mod Windings
mod ByCase
mod Inside
