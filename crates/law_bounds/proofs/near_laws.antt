pub mod NearBest
pub mod CompletedLemmas
pub mod LeastCompleted
pub mod NearTrees
pub mod NearCounts
