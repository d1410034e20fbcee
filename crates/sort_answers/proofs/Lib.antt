-- Laws of Sort's outcome.
pub mod SortedLaws
