-- `list_row` meets its contract: the heads are kept before they are set.
-- Assumes nothing.
use Rattle.gate_users.proofs.ListedLaws.{listed_more}
use Rattle.gate_users.proofs.list_row.Goals as goal

pub returns-clause-listed_2 : goal.returns-clause-listed_2
returns-clause-listed_2 c = search listed_more
