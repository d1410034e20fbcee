-- `first_ready` meets its contract. The loop's invariant: no row from `from` to `row` - 1 is ready.
-- Assumes nothing.
use Rattle.ready_gates.proofs.ReadyLaws.{NoneReady}
use Rattle.ready_gates.proofs.first_ready.Given as goal

abbrev pub invariant-loop-row : goal.invariant-loop-row
invariant-loop-row l = NoneReady l.work l.from l.row
