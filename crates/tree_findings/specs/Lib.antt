pub mod Used
pub mod Marks
pub mod Shifts
pub mod Listed
pub mod Findings
