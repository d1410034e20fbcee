-- `count::count` answers the counts of an accepted file, or Check's refusal.
-- Assumes nothing.
use borrow.Author.Rules.{rules}
use Rattle.accept.proofs.RefusalLaws.{handed-on}
use Rattle.count.proofs.CountedLaws.{count-refused, count-answered}
use Rattle.count.proofs.count.Goals as goal

pub returns-in_err-accepted : goal.returns-in_err-accepted
returns-in_err-accepted c = rw (handed-on c.from_residual.result c.from_residual.ensures.1) (search (count-refused, rules))

pub returns : goal.returns
returns c = search (count-answered, rules)
