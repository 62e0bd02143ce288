pub mod Lines
pub mod Steps
pub mod Signs
pub mod Cells
