pub mod Elements
pub mod Escapes
pub mod Paints
pub mod Axes
pub mod Amounts
pub mod Names
