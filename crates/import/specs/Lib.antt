-- What Import's parts hand on.
pub mod ImportParts
