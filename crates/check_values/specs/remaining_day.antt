pub mod Remaining
pub mod Laws
pub mod Causes
pub mod Answers
pub mod Days
pub mod RestText
pub mod OtherLaws
