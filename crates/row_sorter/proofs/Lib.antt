-- Rows written at their new places, and the sorted file.
pub mod WriteLaws
pub mod SortedLaws
