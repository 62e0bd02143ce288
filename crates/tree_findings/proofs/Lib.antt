pub mod UsedLemmas
pub mod MarksLemmas
pub mod ListedLemmas
pub mod SameLemmas
