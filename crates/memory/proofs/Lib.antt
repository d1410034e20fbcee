-- Laws of tests, of lists made by number, of searches, of fields, of buffers and of what stays of them.
pub mod TestLaws
pub mod ListLaws
pub mod FieldLaws
pub mod BufferLaws
pub mod FrameLaws
pub mod SlotLaws
