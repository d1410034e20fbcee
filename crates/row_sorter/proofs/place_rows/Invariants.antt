-- `place_rows` meets its contract. The loop's invariant: the rows before `row` stand at their new places.
-- Assumes nothing.
use Rattle.gate_rows.specs.Sources.{source_rows}
use Rattle.row_sorter.proofs.WriteLaws.{Writing}
use Rattle.row_sorter.proofs.place_rows.Given as goal

abbrev pub invariant-loop-row : goal.invariant-loop-row
invariant-loop-row l = Writing (source_rows l.layout l.source) l.rows l.res l.row
