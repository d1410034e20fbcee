-- The laws of AIGER texts: their nodes, how they are read, their rows and runs, and what Import promises.
pub mod AigerFacts
pub mod NodeLaws
pub mod ReadingLaws
pub mod NumberLaws
pub mod LineLaws
pub mod TextLaws
pub mod RowLaws
pub mod RunLaws
pub mod ImportRefusalMeaning
pub mod ImportPromise
