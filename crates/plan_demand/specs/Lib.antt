pub mod Demands
pub mod Premises
