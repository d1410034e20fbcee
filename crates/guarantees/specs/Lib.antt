-- What an accepted fold guarantees.
pub mod FoldGuarantee
