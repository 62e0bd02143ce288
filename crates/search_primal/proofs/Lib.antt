pub mod OldLemmas
pub mod BetterRosters
pub mod ToolsLemmas
