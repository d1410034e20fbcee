-- The clock list's entries in code.
pub mod ClockCode
