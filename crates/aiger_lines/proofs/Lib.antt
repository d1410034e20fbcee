-- The laws of the readers: bytes, fields, the header, and lines one after another.
pub mod ReadingLaws
pub mod FieldLaws
pub mod HeaderLaws
pub mod LineLaws
pub mod RightLaws
pub mod StandLaws
