-- What is known of each row, and the clock entries, in the work memory.
pub mod KnownStage
pub mod EntryStage
