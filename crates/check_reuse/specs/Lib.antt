pub mod Reuse
pub mod ReusedText
pub mod Laws
