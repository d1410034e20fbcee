use borrow.Author.Rules.{rules}
use Rattle.trace_columns.proofs.ColumnLaws.{mapping-none, mapping-more}
use Rattle.trace_columns.proofs.map_rows.Goals as goal

pub loop-row-init : goal.loop-row-init
loop-row-init c = search mapping-none

pub loop-row-preserved : goal.loop-row-preserved
loop-row-preserved c = search (mapping-more, rules)
