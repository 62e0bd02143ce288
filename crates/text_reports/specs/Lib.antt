pub mod Reports
pub mod ReportText
pub mod Writable
pub mod SummaryText
pub mod Readings
pub mod LineWords
pub mod ReportReading
pub mod Readable
