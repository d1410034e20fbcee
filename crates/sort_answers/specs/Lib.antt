-- Sort's answers and its outcome.
pub mod SortAnswers
pub mod SortOutcome
