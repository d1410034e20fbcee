-- The readers' answers, and where the lines of a text stand.
pub mod Lines
