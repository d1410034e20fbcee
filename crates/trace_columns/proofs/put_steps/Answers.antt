use borrow.Author.Rules.{rules}
use Rattle.trace_columns.proofs.ValueLaws.{putting-more}
use Rattle.trace_columns.proofs.put_steps.Goals as goal

pub loop-step-preserved : goal.loop-step-preserved
loop-step-preserved c = search (putting-more, rules)
