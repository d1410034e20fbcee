-- The lasso of the three-valued run, generators, the phase count and the clock list.
pub mod TernaryRun
pub mod LassoSearch
pub mod Generators
pub mod ClockEntries
