pub mod Values
pub mod Rests
