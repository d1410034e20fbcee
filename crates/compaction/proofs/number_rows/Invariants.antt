-- `number_rows` meets its contract. The loop's invariant: the slots before `row` have their numbers.
-- Assumes nothing.
use Rattle.compaction.proofs.NumberLaws.{Numbering}
use Rattle.compaction.proofs.number_rows.Given as goal

abbrev pub invariant-loop-row : goal.invariant-loop-row
invariant-loop-row l = Numbering l.initial.slots l.slots l.rows l.row l.number
