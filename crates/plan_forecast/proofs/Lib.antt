pub mod WorkTexts
pub mod SmallForecasts
