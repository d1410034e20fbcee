-- Laws of numbered rows, of the slots in the work memory, and of moved rows.
pub mod NumberLaws
pub mod MoveLaws
