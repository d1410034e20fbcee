use borrow.Author.Rules.{rules}
use Rattle.period_finder.proofs.PeriodLaws.{mod-next, repeats-no, repeats-more}
use Rattle.period_finder.proofs.repeats.Goals as goal

pub returns-then-not-holds_as : goal.returns-then-not-holds_as
returns-then-not-holds_as c = search repeats-no

pub loop-t-preserved : goal.loop-t-preserved
loop-t-preserved c = search (mod-next, repeats-more, rules)
