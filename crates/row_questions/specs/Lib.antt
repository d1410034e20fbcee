-- The slots of names, the tally of rows by their sort, and what the tests of a row say.
pub mod Slots
pub mod Tally
pub mod RowTested
