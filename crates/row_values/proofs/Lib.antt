-- Laws of bytes 0 and 1, and of a row's value.
pub mod BitLaws
pub mod RowValueLaws
