pub mod Prices
pub mod Small
