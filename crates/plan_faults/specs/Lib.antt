pub mod Phrases
pub mod Counts
pub mod Clocks
pub mod Amounts
pub mod WordFaults
pub mod LineFaults
pub mod DutyFaults
pub mod FaultLine
