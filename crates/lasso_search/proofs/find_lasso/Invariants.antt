-- `find_lasso` meets its contract. The outer invariant: states 0 to m - 1 all differ, and stand in the memory; the inner one: none of states 0 to k - 1 equals state m.
-- Assumes nothing.
use Rattle.std.proofs.Common.{◌≡◌}
use Rattle.netlist.specs.FileFormat.{netlist_of}
use Rattle.lasso_search.proofs.SearchLaws.{Unlike, Sought}
use Rattle.lasso_search.proofs.find_lasso.Given as goal

abbrev pub invariant-history : goal.invariant-history
invariant-history l = (l.answer ≡ l.initial.answer) × Unlike (netlist_of l.file) l.m l.k

abbrev pub invariant-states : goal.invariant-states
invariant-states l = Sought (netlist_of l.file) l.initial.work l.work l.m × (l.answer ≡ l.initial.answer)
