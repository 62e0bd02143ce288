pub mod Steps
pub mod FaultLine
pub mod Fields
pub mod ShiftLines
pub mod RosterOf
