-- Laws of names and their slots, of the tally, and of a row's tests.
pub mod NameLaws
pub mod TallyLaws
pub mod RowTestLaws
