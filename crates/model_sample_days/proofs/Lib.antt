pub mod Blocks
pub mod Readings
