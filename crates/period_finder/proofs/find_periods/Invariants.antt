-- `find_periods` meets its contract. The loop's invariant: the first i rows have their periods, and j registers stand among them.
-- Assumes nothing.
use Rattle.std.proofs.Common.{◌≡◌}
use Rattle.memory.specs.Frames.{KeptOutside}
use Rattle.netlist.specs.FileFormat.{netlist_of}
use Rattle.netlist.specs.Limits.{most_original_rows}
use Rattle.ternary_step.specs.StateMap.{registers_before}
use Rattle.fold_memory.specs.WorkMap.{value_offset}
use Rattle.period_finder.specs.PeriodStage.{PeriodPart}
use Rattle.period_finder.proofs.find_periods.Given as goal

abbrev pub invariant-loop-i : goal.invariant-loop-i
invariant-loop-i l = record {
  number : l.j ≡ registers_before (netlist_of l.file) l.i;
  kept : KeptOutside (value_offset 0) (value_offset most_original_rows) l.initial.work l.work;
  part : PeriodPart (netlist_of l.file) l.work l.i;
}
