-- The steps of the loop: row 0 is written, then one phase more is unrolled.
-- Assumes nothing.
use borrow.Author.Rules.{rules}
use Rattle.unrolling.proofs.PhaseLaws.{going_start, going-under, going-phase, phases-start, phases-done}
use Rattle.unrolling.proofs.phases.unroll_phases.Goals as goal

pub loop-k-init : goal.loop-k-init
loop-k-init c = search (going_start, phases-start, rules)

pub unroll_phase-m-requires-clause-under_way : goal.unroll_phase-m-requires-clause-under_way
unroll_phase-m-requires-clause-under_way c = search going-under

pub loop-k-preserved : goal.loop-k-preserved
loop-k-preserved c = search (going-phase, rules)

pub returns : goal.returns
returns c = (search phases-done, search rules)
