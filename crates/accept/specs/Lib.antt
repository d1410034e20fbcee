-- What the answers stand for, and the parts of Check.
pub mod Refusals
pub mod Parts
