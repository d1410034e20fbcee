-- What C callers are promised.
pub mod ForeignAnswers
