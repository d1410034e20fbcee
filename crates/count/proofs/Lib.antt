-- Laws of Count's outcome.
pub mod CountedLaws
