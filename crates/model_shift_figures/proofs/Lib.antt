pub mod RunLemmas
pub mod RunLawLemmas
pub mod StretchLemmas
