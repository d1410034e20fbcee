-- `find_ready` meets its contract. The loop's invariant: of the gates below `row` those that name sources alone are ready.
-- Assumes nothing.
use Rattle.gate_rows.specs.Sources.{source_rows}
use Rattle.ready_gates.specs.ReadySlots.{ReadyMarked}
use Rattle.gate_numbers.specs.Numbers.{Woken}
use Rattle.gate_numbers.proofs.SourceLaws.{rows_below}
use Rattle.gate_numbers.proofs.find_ready.Given as goal

abbrev pub invariant-loop-row : goal.invariant-loop-row
invariant-loop-row l = Woken (source_rows l.layout l.source) (rows_below l.row) l.initial.work l.work × ReadyMarked l.rows l.work 0
