-- `defined_before` meets its contract.
-- Assumes nothing.
use Rattle.aiger_names.proofs.LookLaws.{not-defining, not-later, later-defined}
use Rattle.aiger_names.proofs.defined_before.Goals as goal

pub returns-then-not-defines : goal.returns-then-not-defines
returns-then-not-defines c = search not-defining

pub returns-then-row-window : goal.returns-then-row-window
returns-then-row-window c = search not-later

pub returns : goal.returns
returns c = search later-defined
