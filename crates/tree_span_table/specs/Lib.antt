pub mod Tables
pub mod Walks
pub mod next_codes
