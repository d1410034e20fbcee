-- Laws of the states in the work memory, of the step from one to the next, and of what both ask.
pub mod CodeLaws
pub mod RegisterLaws
pub mod StateLaws
pub mod StepLaws
pub mod NextLaws
pub mod BlockLaws
pub mod ReadyLaws
