-- Limits, rows, runs and files of a netlist, and what an accepted netlist is.
pub mod Limits
pub mod Rows
pub mod Simulation
pub mod FileFormat
pub mod RunLayout
pub mod WellFormed
