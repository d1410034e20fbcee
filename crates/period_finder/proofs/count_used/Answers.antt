use borrow.Author.Rules.{rules}
use Rattle.period_finder.proofs.CountLaws.{used-next, used-other}
use Rattle.period_finder.proofs.count_used.Goals as goal

pub loop-i-preserved : goal.loop-i-preserved
loop-i-preserved c = search (used-next, used-other, rules)
