pub mod Workspaces
