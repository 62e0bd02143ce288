pub mod AddedRows
pub mod CellPrices
pub mod EntriesLemmas
pub mod NodeRowsLemmas
pub mod RowNumbers
pub mod TreeEntries
