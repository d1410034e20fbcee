-- `settle_sources` meets its contract. The loop's invariant: the slots before `row` are set.
-- Assumes nothing.
use Rattle.gate_rows.specs.Sources.{source_rows}
use Rattle.gate_loops.proofs.RowLaws.{SetBelow}
use Rattle.gate_loops.proofs.settle_sources.Given as goal

abbrev pub invariant-loop-row : goal.invariant-loop-row
invariant-loop-row l = SetBelow (source_rows l.layout l.source) l.slots l.row
