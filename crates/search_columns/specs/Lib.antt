pub mod Tools
pub mod Generations
