-- The outcome of the analysis.
pub mod Outcome
