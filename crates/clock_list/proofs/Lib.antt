-- Laws of the clock list.
pub mod ListedLaws
