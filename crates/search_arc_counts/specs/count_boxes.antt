pub mod Boxes
pub mod Costs
pub mod Paths
