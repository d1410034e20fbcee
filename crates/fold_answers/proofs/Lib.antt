-- Laws of Fold's outcome.
pub mod CoreLaws
pub mod FoldedLaws
