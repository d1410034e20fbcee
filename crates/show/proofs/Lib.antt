-- Laws of Show's outcome.
pub mod ShowLaws
