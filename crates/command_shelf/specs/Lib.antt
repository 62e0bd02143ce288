pub mod Shelf
pub mod Stores
pub mod Memory
pub mod Stream
