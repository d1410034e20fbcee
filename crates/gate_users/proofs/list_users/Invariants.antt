-- `list_users` meets its contract. The loop's invariant: the lists of the rows before `row` stand.
-- Assumes nothing.
use Rattle.gate_rows.specs.Sources.{source_rows}
use Rattle.gate_users.specs.Users.{Listed}
use Rattle.gate_users.proofs.list_users.Given as goal

abbrev pub invariant-loop-row : goal.invariant-loop-row
invariant-loop-row l = Listed (source_rows l.layout l.source) l.users l.row
