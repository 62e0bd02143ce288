pub mod CostLemmas
pub mod GoodWords
pub mod GoodPairs
pub mod CodesFound
