pub mod Shown
pub mod Accepted
pub mod Right
pub mod Causes
pub mod Laws
pub mod Worked
