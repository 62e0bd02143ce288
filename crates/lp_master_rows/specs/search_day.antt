pub mod Days
pub mod Rooms
