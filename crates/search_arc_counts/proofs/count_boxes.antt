pub mod LowLemmas
pub mod CostsLemmas
pub mod PathsLemmas
pub mod LowSumsLemmas
