-- The way to a loop of gates.
pub mod Ways
