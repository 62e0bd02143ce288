pub mod Steps
pub mod Drafts
pub mod Words
pub mod Pairs
pub mod Names
pub mod Codes
pub mod Costs
