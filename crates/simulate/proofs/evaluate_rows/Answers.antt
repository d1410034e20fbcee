use borrow.Author.Rules.{rules}
use Rattle.simulate.proofs.WalkLaws.{walked-used, walked-inside, walked-asks, walked_more}
use Rattle.simulate.proofs.evaluate_rows.Goals as goal

pub bounds-file-offset : goal.bounds-file-offset
bounds-file-offset c = search walked-inside

pub row_value-value-requires : goal.row_value-value-requires
row_value-value-requires c = search walked-asks

pub overflow_add-used : goal.overflow_add-used
overflow_add-used c = search (walked-used, rules)

pub loop-row-preserved : goal.loop-row-preserved
loop-row-preserved c = search walked_more
