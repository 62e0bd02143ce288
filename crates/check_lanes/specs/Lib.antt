pub mod Counted
pub mod LeastSum
pub mod Running
