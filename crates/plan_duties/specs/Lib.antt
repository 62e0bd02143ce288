pub mod Tails
pub mod PartWords
pub mod BehindWords
pub mod DutyLines
pub mod Pluses
pub mod Stretches
pub mod Sums
pub mod Fits
