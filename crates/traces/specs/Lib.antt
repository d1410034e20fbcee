-- A failing trace taken back from the folded netlist to the original.
pub mod Trace
pub mod TraceQuestions
pub mod TraceRefusalWords
pub mod TraceAnswer
pub mod TraceGuarantee
