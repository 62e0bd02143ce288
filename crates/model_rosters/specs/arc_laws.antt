pub mod OrNodes
pub mod TreeLists
pub mod Lists
pub mod Balance
pub mod Counts
pub mod Loose
pub mod Laws
pub mod AtNodes
