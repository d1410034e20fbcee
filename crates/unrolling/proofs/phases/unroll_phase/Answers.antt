-- The steps of the loop: one row more is unrolled, and after the last one the phase is done.
-- Assumes nothing.
use borrow.Author.Rules.{rules}
use Rattle.unrolling.proofs.PhaseLaws.{going-under, going-row, phase-done}
use Rattle.unrolling.proofs.phases.unroll_phase.Goals as goal

pub unroll_row-m-requires-clause-under_way : goal.unroll_row-m-requires-clause-under_way
unroll_row-m-requires-clause-under_way c = search going-under

pub loop-i-preserved : goal.loop-i-preserved
loop-i-preserved c = search (going-row, rules)

pub returns : goal.returns
returns c = (search phase-done, search rules)
