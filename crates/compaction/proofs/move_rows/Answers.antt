-- The steps of the loop, by the laws of moving.
-- Assumes nothing.
use Rattle.compaction.proofs.MoveLaws.{moving-none, moving-next, moving-done}
use Rattle.compaction.proofs.move_rows.Goals as goal

pub loop-row-init : goal.loop-row-init
loop-row-init c = search moving-none

pub loop-row-preserved : goal.loop-row-preserved
loop-row-preserved c = search moving-next

pub returns : goal.returns
returns c = search moving-done
