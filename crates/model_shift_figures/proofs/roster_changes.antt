pub mod TotalLemmas
pub mod ScoreLemmas
pub mod PriceLemmas
pub mod StageLemmas
pub mod LeastLemmas
pub mod SearchLemmas
