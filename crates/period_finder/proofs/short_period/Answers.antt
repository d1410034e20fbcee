use borrow.Author.Rules.{rules}
use Rattle.period_finder.proofs.PeriodLaws.{length_found}
use Rattle.period_finder.proofs.short_period.Goals as goal

pub returns-then-is_generator : goal.returns-then-is_generator
returns-then-is_generator c = search (length_found, rules)
