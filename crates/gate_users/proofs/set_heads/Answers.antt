use borrow.Author.Rules.{rules}
use Rattle.gate_users.proofs.ListedLaws.{set_next}
use Rattle.gate_users.proofs.set_heads.Goals as goal

pub loop-index-preserved : goal.loop-index-preserved
loop-index-preserved c = search (set_next, rules)
