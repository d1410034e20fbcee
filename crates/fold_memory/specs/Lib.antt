-- The map of Fold's work memory.
pub mod WorkMap
