-- What the code's rows and counts stand for, rows that stand, are appended or renumbered, and what the code asks of a file.
pub mod RowCode
pub mod RowsStand
pub mod Renumbering
pub mod Appending
pub mod BlockRows
pub mod CountCode
pub mod Ready
