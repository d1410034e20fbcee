-- `lines_right` meets its contract. The invariant: the first k lines are there, each right by itself, and the next begins at `at`.
-- Assumes nothing.
use Rattle.aiger_lines.proofs.StandLaws.{ReadTo}
use Rattle.aiger_lines.proofs.lines_right.Given as goal

abbrev pub invariant-loop-k : goal.invariant-loop-k
invariant-loop-k l = ReadTo l.text l.h l.from l.k l.at
