pub mod Answers
pub mod DayCommands
