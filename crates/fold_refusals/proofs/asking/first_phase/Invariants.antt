-- `first_phase` meets its contract. The loop's invariant: the rows before `row` have phase 0.
-- Assumes nothing.
use Rattle.netlist.specs.FileFormat.{netlist_of}
use Rattle.fold_refusals.proofs.EarlyLaws.{NoPhase}
use Rattle.fold_refusals.proofs.asking.first_phase.Given as goal

abbrev pub invariant-loop-row : goal.invariant-loop-row
invariant-loop-row l = NoPhase (netlist_of l.file) l.row
