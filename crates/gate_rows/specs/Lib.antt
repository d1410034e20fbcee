-- The rows that are sorted, by the layout of the bytes in which they stand.
pub mod Sources
