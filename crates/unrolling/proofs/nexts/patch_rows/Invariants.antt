-- `patch_rows`. The loop's invariant: the first j rows are patched, and the later ones are as they were.
-- Assumes nothing.
use Rattle.unrolling.specs.UnrollMap.{NextsPatched}
use Rattle.unrolling.proofs.nexts.patch_rows.Given as goal

abbrev pub invariant-loop-j : goal.invariant-loop-j
invariant-loop-j l = NextsPatched l.work l.k 0 l.j l.initial.res l.res
