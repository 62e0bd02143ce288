pub mod Totals
pub mod Matchings
pub mod Changes
pub mod Scores
pub mod Stages
