pub mod ShiftTable
pub mod TotalTable
pub mod RunLists
pub mod HeadTable
pub mod MomentTable
pub mod Tables
pub mod Alike
