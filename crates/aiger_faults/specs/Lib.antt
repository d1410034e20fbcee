-- A tree of names in work.
pub mod Walks
