-- Laws of the block check and of the writer.
pub mod BlockLaws
pub mod WriterLaws
