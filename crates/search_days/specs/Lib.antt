pub mod Solutions
pub mod Texts
pub mod day_curve
