pub mod Items
pub mod TeamNumbers
pub mod WordPrices
pub mod ShiftCounts
pub mod FaultsLemmas
pub mod CountersLemmas
