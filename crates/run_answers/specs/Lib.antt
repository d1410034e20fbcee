-- Run's answers and its outcome.
pub mod RunAnswers
pub mod Ran
