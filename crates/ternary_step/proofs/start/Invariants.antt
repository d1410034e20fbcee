-- `start` meets its contract. The loop's invariant: the registers of the first i rows are put and listed, and there are j.
-- Assumes nothing.
use Rattle.std.proofs.Common.{◌≡◌}
use Rattle.netlist.specs.FileFormat.{netlist_of}
use Rattle.ternary_step.specs.StateMap.{registers_before, Started}
use Rattle.ternary_step.proofs.StepLaws.{StartKept}
use Rattle.ternary_step.proofs.start.Given as goal

abbrev pub invariant-loop-i : goal.invariant-loop-i
invariant-loop-i l = record {
  number : l.j ≡ registers_before (netlist_of l.file) l.i;
  kept : StartKept l.initial.work l.work;
  started : Started (netlist_of l.file) l.work l.i;
}
