-- Laws of the marks, and of a name compared with those of the earlier rows.
pub mod MarkLaws
pub mod EarlierLaws
