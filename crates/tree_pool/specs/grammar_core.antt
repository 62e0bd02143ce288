pub mod Items
pub mod Adding
pub mod Lists
pub mod Walks
