pub mod Nodes
pub mod Weighed
pub mod Denominators
pub mod Sums
pub mod Choices
pub mod Raw
pub mod Loops
