pub mod Places
pub mod Net
pub mod Counted
pub mod Rooms
