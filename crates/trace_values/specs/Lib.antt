-- What Trace's values are made of.
pub mod Pairs
