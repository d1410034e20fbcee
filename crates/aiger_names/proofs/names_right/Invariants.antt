-- `names_right` meets its contract. The invariant: the windows before the place are taken. The measure is the nodes left.
-- Assumes nothing.
use Prim.Native.Nat.{◌-◌}
use mathlib.Core.Path.{◌≡◌}
use lib.ListN.{length}
use Rattle.aiger_names.proofs.TakeLaws.{Taking}
use Rattle.aiger_names.proofs.names_right.Given as goal

abbrev pub invariant-loop-place : goal.invariant-loop-place
invariant-loop-place l = Taking l.text l.h l.fits l.base l.work l.place l.found × (length l.work ≡ length l.initial.work)

abbrev pub decreases-loop-place : goal.decreases-loop-place
decreases-loop-place l = l.nodes - l.place.node
