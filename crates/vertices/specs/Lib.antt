pub mod Buffers
pub mod Puts
pub mod Inner
pub mod Fills
pub mod Uses
pub mod Making
