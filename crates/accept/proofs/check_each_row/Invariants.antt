-- `check_each_row` meets its contract. The loop's invariant: the rows before `row` are right, the tally says their sorts, and the marks are theirs.
-- Assumes nothing.
use Rattle.row_questions.specs.RowTested.{operand_by}
use Rattle.accept.proofs.RowCheckLaws.{PassedRows}
use Rattle.accept.proofs.check_each_row.Given as goal

abbrev pub invariant-loop-row : goal.invariant-loop-row
invariant-loop-row l = PassedRows (operand_by l.unordered) l.file l.tally l.few l.marks l.row
