pub mod Readers
pub mod Fetches
pub mod AskedFronts
pub mod AskedLemmas
pub mod OneReading
pub mod OnceLemmas
pub mod SaysLemmas
