-- `keep_heads` meets its contract. The loop's invariant: the first `index` entries are written, and nothing else.
-- Assumes nothing.
use Rattle.gate_rows.specs.Sources.{source_rows}
use Rattle.gate_users.specs.Users.{HeadsKept}
use Rattle.gate_users.proofs.keep_heads.Given as goal

abbrev pub invariant-loop-index : goal.invariant-loop-index
invariant-loop-index l = HeadsKept (source_rows l.layout l.source) l.row l.index l.initial.users l.users
