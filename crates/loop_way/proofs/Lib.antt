-- Laws of ways.
pub mod WayLaws
