-- `fill_tree` meets its contract. The invariant: the nodes between the place and the line are in the tree.
-- Assumes nothing.
use Rattle.aiger_names.proofs.TakeLaws.{Filling}
use Rattle.aiger_names.proofs.fill_tree.Given as goal

abbrev pub invariant-loop-line : goal.invariant-loop-line
invariant-loop-line l = Filling l.text l.place l.base l.capacity l.initial.work l.work l.line l.at l.count
