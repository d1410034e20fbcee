-- `output_phases`. The loop's invariant: the outputs of the first k phases are appended.
-- Assumes nothing.
use Rattle.memory.specs.Lists.{join_below}
use Rattle.netlist.specs.FileFormat.{netlist_of}
use Rattle.blockfile.specs.Appending.{Appended}
use Rattle.unrolling.specs.UnrollMap.{outputs_in}
use Rattle.unrolling.proofs.outputs.output_phases.Given as goal

abbrev pub invariant-loop-k : goal.invariant-loop-k
invariant-loop-k l = Appended (join_below l.k (outputs_in (netlist_of l.file) l.work)) l.initial.res l.res l.count l.m
