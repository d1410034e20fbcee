use borrow.Author.Rules.{rules}
use Rattle.trace_columns.proofs.ValueLaws.{put-more}
use Rattle.trace_columns.proofs.put_values.Goals as goal

pub loop-index-preserved : goal.loop-index-preserved
loop-index-preserved c = search (put-more, rules)
