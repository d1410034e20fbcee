-- Fold's refusals, and what questions 1 to 15 answer.
pub mod FoldRefusals
pub mod EarlyAnswers
