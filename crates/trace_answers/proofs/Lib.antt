-- Laws of Trace's outcome.
pub mod TracedLaws
