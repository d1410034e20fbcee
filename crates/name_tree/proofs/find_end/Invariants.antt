-- `find_end` meets its contract. The loop's invariant: the way to the number has come to `entry`, with the bits of `rest` left, and goes on to each entry that has the number. Children stand later, so the measure is how many entries are left.
-- Assumes nothing.
use Prim.Native.Nat.{◌-◌}
use Rattle.name_tree.proofs.TreeLaws.{OnWay}
use Rattle.name_tree.proofs.find_end.Given as goal

abbrev pub invariant-loop-base : goal.invariant-loop-base
invariant-loop-base l = OnWay l.work l.base l.count l.number l.entry l.rest

abbrev pub decreases-loop-base : goal.decreases-loop-base
decreases-loop-base l = l.count - l.entry
