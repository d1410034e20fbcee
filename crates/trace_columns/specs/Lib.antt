-- The columns of the folded netlist's values, and the values by them.
pub mod Columns
pub mod TraceValues
