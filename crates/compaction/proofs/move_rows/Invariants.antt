-- `move_rows` meets its contract. The loop's invariant: the marked rows before `row` stand in front, and the others where they stood.
-- Assumes nothing.
use Rattle.compaction.proofs.MoveLaws.{Moving}
use Rattle.compaction.proofs.move_rows.Given as goal

abbrev pub invariant-loop-row : goal.invariant-loop-row
invariant-loop-row l = Moving l.initial.res l.res l.slots l.rows l.row l.to
