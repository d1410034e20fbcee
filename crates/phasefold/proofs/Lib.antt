-- Laws of what C callers get.
pub mod ForeignLaws
pub mod ShownFlatLaws
