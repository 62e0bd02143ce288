pub mod WordLetters
pub mod Costs
