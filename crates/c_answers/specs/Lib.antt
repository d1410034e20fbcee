-- The answers' numbers.
pub mod AnswerNumbers
