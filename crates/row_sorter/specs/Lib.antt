-- Rows that are placed.
pub mod Placing
