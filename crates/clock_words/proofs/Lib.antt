-- Laws of what is known and of the clock entries.
pub mod KnownLaws
pub mod EntryLaws
