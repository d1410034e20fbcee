-- `next_user` meets its contract. The loop's invariant: the node is none of the first `index` operands.
-- Assumes nothing.
use Rattle.netlist.specs.Rows.{row_at}
use Rattle.gate_rows.specs.Sources.{source_rows}
use Rattle.ordering.specs.GateOrder.{operands_of}
use Rattle.gate_users.proofs.ListedLaws.{NotAmong}
use Rattle.gate_users.proofs.next_user.Given as goal

abbrev pub invariant-loop-index : goal.invariant-loop-index
invariant-loop-index l = NotAmong (operands_of (row_at (source_rows l.layout l.source) l.user)) l.index l.node
