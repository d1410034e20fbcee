-- The map is right.
pub mod MapLaws
