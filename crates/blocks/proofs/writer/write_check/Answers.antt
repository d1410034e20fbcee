-- `writer::write_check` meets its contract: the complement of the sum is the check.
-- Assumes nothing.
use Rattle.blocks.proofs.WriterLaws.{check-written}
use Rattle.blocks.proofs.writer.write_check.Goals as goal

pub returns : goal.returns
returns c = search check-written
