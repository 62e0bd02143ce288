pub mod Draws
pub mod Made
pub mod Built
pub mod Laws
