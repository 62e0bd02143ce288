pub mod TablesLemmas
pub mod WalksLemmas
pub mod AsksLemmas
