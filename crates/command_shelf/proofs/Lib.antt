pub mod HeldTexts
pub mod Calls
pub mod Streams
pub mod Fronts
