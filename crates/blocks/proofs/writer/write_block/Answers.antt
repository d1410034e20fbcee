-- `writer::write_block` meets its contract: its head, the cleared bytes and its check around the rows are the block.
-- Assumes nothing.
use Rattle.blocks.proofs.WriterLaws.{block_written}
use Rattle.blocks.proofs.writer.write_block.Goals as goal

pub returns : goal.returns
returns c = search block_written
