-- Laws of Trace's questions and of its outcome.
pub mod PlanLaws
pub mod MadeLaws
pub mod LentLaws
