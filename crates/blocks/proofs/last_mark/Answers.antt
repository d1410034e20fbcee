-- `last_mark` meets its contract: byte 0 of the last block, and of another.
-- Assumes nothing.
use Rattle.blocks.proofs.BlockLaws.{mark-last, mark-other}
use Rattle.blocks.proofs.last_mark.Goals as goal

pub returns-then-next-blocks : goal.returns-then-next-blocks
returns-then-next-blocks c = search mark-last

pub returns-else-next-blocks : goal.returns-else-next-blocks
returns-else-next-blocks c = search mark-other
