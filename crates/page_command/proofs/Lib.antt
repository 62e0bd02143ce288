mod ShownRosters
mod OldLemmas
mod OneComparison
mod OnceLemmas
pub mod Checks
mod LabelledReaders
mod DatedAnswers
mod DatedReaders
