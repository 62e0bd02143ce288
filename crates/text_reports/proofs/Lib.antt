mod ExactReadings
mod FineLines
mod LineForms
pub mod Lines
mod NumberWords
mod ReadLoops
mod ReadTexts
mod ReportForms
mod WholeForms
