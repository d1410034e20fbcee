use borrow.Author.Rules.{rules}
use Rattle.gate_users.proofs.ListedLaws.{keep-next}
use Rattle.gate_users.proofs.keep_heads.Goals as goal

pub loop-index-preserved : goal.loop-index-preserved
loop-index-preserved c = search (keep-next, rules)
