-- Laws of the refusals, of a file whose blocks are right, and of the row check.
pub mod RefusalLaws
pub mod BlockLaws
pub mod RowCheckLaws
