-- The numbers of the block check's answers.
pub mod BlockCode
