-- Fold's questions, as tests and in words.
pub mod FoldQuestions
pub mod FoldRefusalWords
