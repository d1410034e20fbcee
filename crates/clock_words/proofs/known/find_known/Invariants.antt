-- `find_known` meets its contract. The loop's invariant: what is known of the first i rows is put, and j registers stand among them.
-- Assumes nothing.
use Rattle.std.proofs.Common.{◌≡◌}
use Rattle.memory.specs.Frames.{KeptOutside}
use Rattle.netlist.specs.FileFormat.{netlist_of}
use Rattle.netlist.specs.Limits.{most_original_rows}
use Rattle.ternary_step.specs.StateMap.{registers_before}
use Rattle.fold_memory.specs.WorkMap.{known_offset}
use Rattle.clock_words.specs.KnownStage.{KnownPart}
use Rattle.clock_words.proofs.known.find_known.Given as goal

abbrev pub invariant-loop-i : goal.invariant-loop-i
invariant-loop-i l = record {
  number : l.j ≡ registers_before (netlist_of l.file) l.i;
  kept : KeptOutside (known_offset 0) (known_offset most_original_rows) l.initial.work l.work;
  part : KnownPart (netlist_of l.file) l.phases l.work l.i;
}
