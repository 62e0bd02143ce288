pub mod DemandLemmas
pub mod DraftLemmas
