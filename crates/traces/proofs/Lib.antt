-- What a refusal of Trace means, and the guarantee of a trace that is taken back.
pub mod TraceRefusalMeaning
pub mod TracePromise
