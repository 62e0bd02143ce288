pub mod Times
pub mod Shifts
pub mod Rosters
pub mod Whole
pub mod WorkedPlans
