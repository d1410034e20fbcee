-- `unroll_phase`. The loop's invariant: the first i rows of the phase are unrolled, and nothing behind the images has changed.
-- Assumes nothing.
use Rattle.unrolling.proofs.PhaseLaws.{Going}
use Rattle.unrolling.proofs.phases.unroll_phase.Given as goal

abbrev pub invariant-loop-i : goal.invariant-loop-i
invariant-loop-i l = Going l.file l.initial.res l.initial.work l.k l.i l.res l.work l.m
