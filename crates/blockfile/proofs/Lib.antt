-- Laws of the code's rows and counts, of rows that stand, are appended or renumbered, of kinds, and of a file that is ready.
pub mod RowCodeLaws
pub mod StandLaws
pub mod KindLaws
pub mod AppendLaws
pub mod BlockRowsLaws
pub mod CountLaws
pub mod ReadyLaws
