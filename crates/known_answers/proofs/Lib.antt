-- The trainer's table: the entries that are proved, and the printed sample; AIGER texts, and netlists that are sorted.
pub mod Examples
pub mod LongFile
pub mod Table
pub mod AigerTexts
pub mod SortedRows
