use borrow.Author.Rules.{rules}
use Rattle.trace_columns.proofs.NameLaws.{listing-room, listing-more}
use Rattle.trace_columns.proofs.list_labels.Goals as goal

pub list_label-count-requires-clause-count_in_bounds : goal.list_label-count-requires-clause-count_in_bounds
list_label-count-requires-clause-count_in_bounds c = search (listing-room, rules)

pub loop-row-preserved : goal.loop-row-preserved
loop-row-preserved c = search (listing-more, rules)
