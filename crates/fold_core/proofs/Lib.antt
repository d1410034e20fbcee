-- Laws of the stages, and of the whole outcome.
pub mod UnrolledFits
pub mod StageLaws
pub mod PassedLaws
pub mod OutcomeLaws
