pub mod Value
pub mod Rest
pub mod Statuses
pub mod Fronts
