-- What Count promises.
pub mod CountOutcome
