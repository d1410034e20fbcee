-- The step of the loop: one register more is patched.
-- Assumes nothing.
use Rattle.unrolling.proofs.PatchLaws.{patch-more}
use Rattle.unrolling.proofs.nexts.patch_rows.Goals as goal

pub loop-j-preserved : goal.loop-j-preserved
loop-j-preserved c = search patch-more
