pub mod Workspaces
pub mod Rounded
pub mod Solutions
pub mod OldRosters
pub mod Jobs
pub mod Nodes
