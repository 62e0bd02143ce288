pub mod pinned_part
pub mod priced_part
pub mod roster_part
