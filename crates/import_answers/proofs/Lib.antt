-- Laws of Import's outcome.
pub mod ImportedLaws
