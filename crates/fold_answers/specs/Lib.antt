-- Fold's answers, and its outcome over plain slices and with the clock list.
pub mod FoldAnswers
pub mod FoldOutcome
pub mod FoldedOutcome
