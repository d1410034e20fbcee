-- Import's answers and its outcome.
pub mod ImportAnswers
pub mod ImportOutcome
