pub mod TailLemmas
pub mod RowLemmas
pub mod GoodTails
