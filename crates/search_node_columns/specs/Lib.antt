pub mod Columns
pub mod Kept
pub mod Listing
pub mod Priced
pub mod Several
pub mod Tools
pub mod Weights
pub mod volume
