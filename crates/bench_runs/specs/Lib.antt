pub mod Prices
pub mod Roots
pub mod Small
