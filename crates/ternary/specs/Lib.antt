-- The values 0, 1 and X of the three-valued run, and their rules.
pub mod Ternary
