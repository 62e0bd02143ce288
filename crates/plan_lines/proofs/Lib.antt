pub mod StartLemmas
pub mod GoodDrafts
pub mod GoodReadings
pub mod GoodPlans
