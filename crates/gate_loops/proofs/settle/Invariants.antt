-- `settle` meets its contract. The loop's invariant: the walk from `root` stands at `row`. The number that falls: 2 for each row that is not seen, 1 for each open one.
-- Assumes nothing.
use Rattle.gate_loops.proofs.WalkLaws.{unsettled}
use Rattle.gate_loops.proofs.SettleLaws.{Standing}
use Rattle.gate_loops.proofs.settle.Given as goal

abbrev pub invariant-walk : goal.invariant-walk
invariant-walk l = Standing l.layout l.source l.initial.slots l.slots l.rows l.root l.row

abbrev pub decreases-walk : goal.decreases-walk
decreases-walk l = unsettled l.slots l.rows
