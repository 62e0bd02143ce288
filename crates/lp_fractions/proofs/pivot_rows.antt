pub mod Factors
pub mod Steps
pub mod RowCopies
pub mod PlacesLemmas
pub mod Sizes
pub mod QuotientsLemmas
pub mod Entries
pub mod SparseSteps
