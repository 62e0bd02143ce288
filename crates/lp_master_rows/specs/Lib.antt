pub mod Entries
pub mod NodeRows
pub mod search_day
pub mod node_task
