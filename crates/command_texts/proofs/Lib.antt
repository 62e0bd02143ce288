mod StepRules
pub mod Derivations
pub mod StartLemmas
pub mod Checks
pub mod Days
pub mod OnceLemmas
pub mod SaysLemmas
