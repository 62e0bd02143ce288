pub mod FreeRules
pub mod Relaxed
pub mod Rosters
pub mod Laws
pub mod Said
