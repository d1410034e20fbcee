-- Laws of the unrolling in memory.
pub mod UnrollFacts
pub mod PhaseLaws
pub mod PatchLaws
pub mod OutputLaws
pub mod UnrolledWhole
