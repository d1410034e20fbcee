-- `measure_run` meets its contract. The invariant: the nodes before the line count up.
-- Assumes nothing.
use Prim.Native.Nat.{◌+◌, ◌≤◌}
use Rattle.aiger_names.proofs.TakeLaws.{Counting}
use Rattle.aiger_names.proofs.measure_run.Given as goal

abbrev pub invariant-loop-line : goal.invariant-loop-line
invariant-loop-line l = Counting l.text l.line l.node l.at × (l.node ≤ l.line + 1)
