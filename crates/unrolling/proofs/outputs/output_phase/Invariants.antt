-- `output_phase`. The loop's invariant: the outputs of the first i rows are appended.
-- Assumes nothing.
use Rattle.memory.specs.Lists.{join_below}
use Rattle.netlist.specs.FileFormat.{netlist_of}
use Rattle.blockfile.specs.Appending.{Appended}
use Rattle.unrolling.specs.UnrollMap.{output_at}
use Rattle.unrolling.proofs.outputs.output_phase.Given as goal

abbrev pub invariant-loop-i : goal.invariant-loop-i
invariant-loop-i l = Appended (join_below l.i (output_at (netlist_of l.file) l.work l.k)) l.initial.res l.res l.count l.m
