pub mod Dates
pub mod Marks
pub mod Escapes
pub mod Folds
pub mod Events
pub mod Calendars
pub mod DayNumbers
