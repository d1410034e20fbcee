-- The proofs of what is promised.
pub mod FoldPromise
