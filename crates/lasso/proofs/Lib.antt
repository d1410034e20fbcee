-- Laws of the lasso, of generators and of the clock list.
pub mod TernarySoundness
pub mod LassoLaws
pub mod GeneratorLaws
pub mod PhaseCountLaws
pub mod ClockLaws
