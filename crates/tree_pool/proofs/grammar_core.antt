pub mod ItemsLemmas
pub mod OrderLemmas
pub mod PartsLemmas
pub mod ToItemsLemmas
pub mod ToTreeLemmas
pub mod ListsLemmas
