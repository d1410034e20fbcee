-- `unused_right` meets its contract: the part tested is the bytes after the last row.
-- Assumes nothing.
use Rattle.blocks.proofs.BlockLaws.{unused-tested}
use Rattle.blocks.proofs.unused_right.Goals as goal

pub returns : goal.returns
returns c = search unused-tested
