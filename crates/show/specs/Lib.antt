-- What Show promises.
pub mod ShowOutcome
