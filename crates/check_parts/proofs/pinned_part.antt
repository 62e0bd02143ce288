pub mod Paths
pub mod PlacesLemmas
pub mod NodeSums
pub mod RowChanges
pub mod NetLemmas
pub mod PinnedValues
