pub mod Drafts
pub mod ShortPricings
pub mod Tools
