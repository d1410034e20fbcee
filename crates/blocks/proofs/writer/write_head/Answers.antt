-- `writer::write_head` meets its contract: its four stores are the run of the head's bytes.
-- Assumes nothing.
use Rattle.std.proofs.Common.{arith, length-set}
use Rattle.blocks.proofs.writer.write_head.Goals as goal

pub bounds-block-1 : goal.bounds-block-1
bounds-block-1 c = simp length-set (omega arith)

pub bounds-block-2 : goal.bounds-block-2
bounds-block-2 c = simp length-set (omega arith)
