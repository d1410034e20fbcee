-- `set_clocks` meets its contract. The loop's invariant: the entries below `index` are set from the packed ones, the others are as they were.
-- Assumes nothing.
use Rattle.std.proofs.Common.{◌≡◌}
use Rattle.clock_list.proofs.ListedLaws.{listed_to}
use Rattle.clock_list.proofs.set_clocks.Given as goal

abbrev pub invariant-loop-index : goal.invariant-loop-index
invariant-loop-index l = l.clocks ≡ listed_to l.work l.initial.clocks l.index
