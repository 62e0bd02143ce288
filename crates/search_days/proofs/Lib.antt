mod NodeValues
mod ArcCounts
pub mod CountedNodes
