-- Laws of Fold's questions.
pub mod FoldAccepted
pub mod FoldRefusalMeaning
