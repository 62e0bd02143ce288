pub mod Counts
pub mod Lines
pub mod InstanceOf
pub mod Drafts
pub mod Written
pub mod Forms
