pub mod Widths
pub mod Small
pub mod Parts
