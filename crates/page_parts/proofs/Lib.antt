pub mod ElementsLemmas
mod EscapeLemmas
pub mod PaintLemmas
pub mod AmountLemmas
mod UnitLemmas
mod NameLemmas
