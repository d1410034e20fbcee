use borrow.Author.Rules.{rules}
use Rattle.period_finder.proofs.CountLaws.{best-start, best-next, best-kept}
use Rattle.period_finder.proofs.best_phases.Goals as goal
use Rattle.period_finder.proofs.best_phases.Goals.{then-most-used, else-most-used}

pub loop-n-init : goal.loop-n-init
loop-n-init c = search (best-start, rules)

pub loop-n-preserved : goal.loop-n-preserved
loop-n-preserved c = search (best-next, best-kept, rules)
