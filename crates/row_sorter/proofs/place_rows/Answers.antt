use borrow.Author.Rules.{rules}
use Rattle.row_sorter.proofs.WriteLaws.{writing-next, writing-done}
use Rattle.row_sorter.proofs.place_rows.Goals as goal

pub loop-row-preserved : goal.loop-row-preserved
loop-row-preserved c = search (writing-next, rules)

pub returns-clause-rows_stand : goal.returns-clause-rows_stand
returns-clause-rows_stand c = search writing-done
