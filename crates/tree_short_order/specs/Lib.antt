pub mod Best
pub mod Shorts
pub mod Walks
