-- What the search for the lasso leaves.
pub mod SearchStage
