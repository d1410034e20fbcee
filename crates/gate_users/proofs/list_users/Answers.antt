use borrow.Author.Rules.{rules}
use Rattle.gate_users.proofs.ListedLaws.{cleared-listed}
use Rattle.gate_users.proofs.list_users.Goals as goal

pub loop-row-init : goal.loop-row-init
loop-row-init c = search (cleared-listed, rules)
