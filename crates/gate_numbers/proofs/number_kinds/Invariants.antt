-- `number_kinds` meets its contract. The loop's invariant: the rows below `row` are numbered.
-- Assumes nothing.
use Rattle.gate_rows.specs.Sources.{source_rows}
use Rattle.gate_numbers.proofs.NumberLaws.{Numbering}
use Rattle.gate_numbers.proofs.number_kinds.Given as goal

abbrev pub invariant-loop-row : goal.invariant-loop-row
invariant-loop-row l = Numbering (source_rows l.layout l.source) l.least l.most l.number l.initial.slots l.slots l.row l.next
