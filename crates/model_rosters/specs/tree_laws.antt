pub mod Parts
pub mod LeastTrees
pub mod Laws
pub mod DaySteps
pub mod RankOrder
pub mod Letters
