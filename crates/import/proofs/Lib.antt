-- The laws of Import.
pub mod PairRowLaws
pub mod OutcomeLaws
