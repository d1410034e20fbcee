-- `set_heads` meets its contract. The loop's invariant: the row is the head of the lists of the first `index` operands.
-- Assumes nothing.
use lib.ListN.{take}
use Rattle.netlist.specs.Rows.{row_at}
use Rattle.gate_rows.specs.Sources.{source_rows}
use Rattle.ordering.specs.GateOrder.{operands_of}
use Rattle.gate_users.specs.Users.{HeadsSet}
use Rattle.gate_users.proofs.set_heads.Given as goal

abbrev pub invariant-loop-index : goal.invariant-loop-index
invariant-loop-index l =
    HeadsSet (source_rows l.layout l.source) l.row (take l.index (operands_of (row_at (source_rows l.layout l.source) l.row))) l.initial.users l.users
