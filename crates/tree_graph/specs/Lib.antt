pub mod Graphs
pub mod Nodes
pub mod Listed
pub mod Levels
pub mod Lists
pub mod Linked
pub mod Joined
