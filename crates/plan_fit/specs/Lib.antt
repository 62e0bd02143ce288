pub mod ReadPlans
