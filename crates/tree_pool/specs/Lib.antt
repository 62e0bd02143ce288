pub mod ArcOrders
pub mod Costs
pub mod Entries
pub mod Letters
pub mod Orders
pub mod Pools
pub mod grammar_core
