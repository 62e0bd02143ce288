pub mod Ranking
pub mod Frames
pub mod Candidates
pub mod Children
pub mod Progresses
pub mod Walks
