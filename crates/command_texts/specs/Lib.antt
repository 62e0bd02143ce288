pub mod Start
pub mod Explain
pub mod Check
pub mod Statuses
pub mod Days
pub mod SameTexts
pub mod what_if
pub mod relax
