pub mod Sums
pub mod Kinds
pub mod Compared
pub mod Rows
pub mod Draw
pub mod Shown
