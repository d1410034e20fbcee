-- The row that was found is the first, and where none was found there is none.
-- Assumes nothing.
use Rattle.fold_refusals.proofs.EarlyLaws.{phase-missing, phase-here}
use Rattle.fold_refusals.proofs.asking.first_phase.Goals as goal

pub returns-then-row_phase-ne0 : goal.returns-then-row_phase-ne0
returns-then-row_phase-ne0 c = (c.loop-row-test.true, search phase-here)

pub returns : goal.returns
returns c = search phase-missing
