-- `put_entries` meets its contract. The loop's invariant: the entries of the first i rows are put.
-- Assumes nothing.
use Rattle.netlist.specs.FileFormat.{netlist_of}
use Rattle.clock_words.specs.EntryStage.{EntryPart}
use Rattle.clock_words.proofs.entries.put_entries.Given as goal

abbrev pub invariant-loop-i : goal.invariant-loop-i
invariant-loop-i l = EntryPart (netlist_of l.file) l.initial.work l.work l.i l.e
