pub mod EscapeLemmas
pub mod FoldLemmas
pub mod RowLemmas
pub mod DayLemmas
