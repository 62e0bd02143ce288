pub mod BestLemmas
pub mod StandingTrees
pub mod WalksLemmas
pub mod DayLemmas
