-- The states and rows' values of the three-valued run in the lent work memory.
pub mod StateMap
