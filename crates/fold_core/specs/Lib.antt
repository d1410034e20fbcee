-- What Fold's stages are given and hand on.
pub mod FoldParts
pub mod FoldStages
