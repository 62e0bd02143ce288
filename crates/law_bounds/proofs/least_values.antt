pub mod Searches
pub mod Heights
pub mod LeastTrees
pub mod Values
