-- ASCII AIGER: the text, its rows, its runs, Import's questions, and what an import guarantees.
pub mod AigerText
pub mod AigerReading
pub mod AigerRows
pub mod AigerRun
pub mod ImportQuestions
pub mod ImportRefusalWords
pub mod ImportGuarantee
