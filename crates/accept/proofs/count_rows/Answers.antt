-- `count_rows` meets its contract: the last block's count, after 63 rows for each block before it.
-- Assumes nothing.
use Rattle.accept.proofs.BlockLaws.{rows-by-last}
use Rattle.accept.proofs.count_rows.Goals as goal

pub returns : goal.returns
returns c = search rows-by-last
