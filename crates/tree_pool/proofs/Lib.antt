pub mod ArcOrderLemmas
pub mod CostsLemmas
pub mod EntriesLemmas
pub mod FactsLemmas
pub mod LettersLemmas
pub mod OrdersLemmas
pub mod PoolGrowth
