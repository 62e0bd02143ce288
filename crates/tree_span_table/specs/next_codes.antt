pub mod Marginals
pub mod Totals
pub mod Pushes
pub mod Views
