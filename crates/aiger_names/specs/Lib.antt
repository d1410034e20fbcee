-- The names of an AIGER text: nodes in windows, what is counted, and the pairs that are left.
pub mod Names
