-- `evaluate_rows` meets its contract. The loop's invariant: the rows from `start` to `row` - 1 have their values, `row` stands at `offset`, and `used` inputs stand before it.
-- Assumes nothing.
use Rattle.simulate.proofs.WalkLaws.{Walked}
use Rattle.simulate.proofs.evaluate_rows.Given as goal

abbrev pub invariant-loop-row : goal.invariant-loop-row
invariant-loop-row l = Walked l.file l.inputs l.step l.start l.stop l.first l.initial.work l.work l.row l.offset l.used
