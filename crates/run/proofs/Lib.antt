-- Laws of Run's questions and of its outcome.
pub mod PlanLaws
pub mod RanLaws
