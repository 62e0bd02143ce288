pub mod Steps
pub mod Headings
pub mod Rows
pub mod Columns
pub mod ForecastOf
pub mod FaultLine
pub mod Sound
