pub mod RestAndWork
pub mod TwoReadings
pub mod Built
