-- The outcome of Sort.
pub mod OutcomeLaws
