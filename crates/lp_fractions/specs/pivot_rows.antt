pub mod Rows
pub mod Columns
pub mod Places
pub mod Quotients
pub mod Refusals
