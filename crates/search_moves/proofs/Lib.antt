mod LeastTrees
mod DayTrees
mod PoolTrees
mod DraftsLemmas
mod ToolsLemmas
