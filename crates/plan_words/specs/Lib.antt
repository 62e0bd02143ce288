pub mod Digits
pub mod Days
pub mod Lengths
pub mod TimeWords
pub mod NameWords
pub mod Numbers
pub mod Amounts
pub mod ClockText
