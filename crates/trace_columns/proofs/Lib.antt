-- Laws of names and labels, of columns, and of values by columns.
pub mod NameLaws
pub mod ColumnLaws
pub mod ValueLaws
