-- `patch_row` reads a register's next value, and writes its image there.
-- Assumes nothing.
use Rattle.unrolling.proofs.PatchLaws.{patch-register, patch-none}
use Rattle.unrolling.proofs.nexts.patch_row.Goals as goal

pub returns-then-kind-eq2 : goal.returns-then-kind-eq2
returns-then-kind-eq2 c = search patch-register

pub returns-else-kind-eq2 : goal.returns-else-kind-eq2
returns-else-kind-eq2 c = search patch-none
