-- Laws of the fold, and demand 3 proved.
pub mod GateLaws
pub mod BuilderLaws
pub mod UnrollLaws
pub mod GroupLaws
pub mod UnrolledRun
pub mod CompactionLaws
pub mod ConeLaws
pub mod Provenance
pub mod FoldedRun
pub mod ResultShape
pub mod SizeBound
pub mod DemandThree
pub mod FoldLaws
