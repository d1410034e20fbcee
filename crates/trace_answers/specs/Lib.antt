-- Trace's answers and its outcome.
pub mod TraceAnswers
pub mod Traced
