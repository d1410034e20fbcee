-- `reset_code` meets its contract.
-- Assumes nothing.
use Rattle.aiger_names.proofs.LookLaws.{reset-known, reset-unknown}
use Rattle.aiger_names.proofs.reset_code.Goals as goal

pub returns-then-l-le1 : goal.returns-then-l-le1
returns-then-l-le1 c = search reset-known

pub returns-else-l-le1 : goal.returns-else-l-le1
returns-else-l-le1 c = search reset-unknown
