pub mod Order
pub mod Numbers
pub mod Walk
pub mod Layers
pub mod Rows
