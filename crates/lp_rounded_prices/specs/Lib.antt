pub mod Denominators
pub mod Faults
pub mod Floors
