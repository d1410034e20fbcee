-- The slots of the search: marks, and rows found.
pub mod FoundRows
