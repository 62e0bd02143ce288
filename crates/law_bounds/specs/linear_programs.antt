pub mod Sums
pub mod RowStep
pub mod Program
pub mod Solution
pub mod Tableau
pub mod Example
