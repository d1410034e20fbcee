-- What Sort's parts hand on.
pub mod SortParts
