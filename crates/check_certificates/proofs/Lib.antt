pub mod OneTree
pub mod WalksLemmas
pub mod Forests
pub mod StatedPrices
