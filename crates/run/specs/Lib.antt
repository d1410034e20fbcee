-- What Run plans.
pub mod RunPlans
