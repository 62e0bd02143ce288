pub mod SomeNumbers
pub mod Items
pub mod Runs
pub mod SameNames
pub mod Gathering
