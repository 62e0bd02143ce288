pub mod Range
pub mod Row
pub mod Refusal
pub mod Fraction
pub mod Sum
pub mod Scaled
pub mod pivot_rows
