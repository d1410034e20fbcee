-- `copy_outputs` meets its contract. The loop's invariant: the first `copied` bytes are copied, and no other is changed.
-- Assumes nothing.
use mathlib.Core.Path.{◌≡◌}
use lib.ListN.{take, drop}
use lib.Seq.{sets}
use Rattle.simulate.proofs.copy_outputs.Given as goal

abbrev pub invariant-loop-copied : goal.invariant-loop-copied
invariant-loop-copied l = l.res ≡ sets l.initial.res l.to (take l.copied (drop l.from l.work))
