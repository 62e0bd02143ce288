mod Starts
mod PricedRows
mod DerivedLemmas
mod Columns
mod RowLemmas
mod CompareLemmas
mod Contents
