-- `aiger_faults::names::walk_lines` keeps the tree, and stays in the text.
-- Assumes nothing.
use Rattle.std.proofs.Common.{◌≤◌, length}
use Rattle.aiger_faults.specs.Walks.{TreeInside}
use Rattle.aiger_faults.proofs.names.walk_lines.Given as goal

abbrev pub invariant-loop-k : goal.invariant-loop-k
invariant-loop-k l = (l.at ≤ length l.text) × TreeInside l.work l.count
