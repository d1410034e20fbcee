-- The walk that looks for a loop.
pub mod Walk
