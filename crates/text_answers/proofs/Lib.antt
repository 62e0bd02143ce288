pub mod WrittenSteps
pub mod TextParts
