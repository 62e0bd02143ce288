pub mod RunLemmas
pub mod LineLemmas
mod PlaceLemmas
mod ShiftLawLemmas
