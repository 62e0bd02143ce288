pub mod TreeLaws
pub mod NumberedLeaves
pub mod WaitingLeaves
pub mod Regrowth
pub mod StepsLemmas
pub mod LeafSteps
pub mod AskedLemmas
pub mod NextLeaves
