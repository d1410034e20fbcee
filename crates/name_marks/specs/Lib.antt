-- The marks of names that are taken.
pub mod Marks
