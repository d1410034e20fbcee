-- `unroll_phases`. The loop's invariant: phases 0 to k - 1 are unrolled, and nothing behind the images has changed.
-- Assumes nothing.
use Rattle.unrolling.proofs.PhaseLaws.{Going}
use Rattle.unrolling.proofs.phases.unroll_phases.Given as goal

abbrev pub invariant-loop-k : goal.invariant-loop-k
invariant-loop-k l = Going l.file l.initial.res l.initial.work l.k 0 l.res l.work l.m
