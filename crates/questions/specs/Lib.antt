-- The questions, the refusal of each operation, and what they mean in plain words.
pub mod Questions
pub mod QuestionWords
pub mod RefusalWords
pub mod RoundTrips
pub mod OldFiles
