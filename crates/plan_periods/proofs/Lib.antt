pub mod FirstStarts
pub mod Sets
