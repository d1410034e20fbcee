-- Laws of questions 1 to 15.
pub mod EarlyLaws
