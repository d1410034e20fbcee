-- Where no gate is found that is never placed, question 22 is passed.
use borrow.Author.Rules.{rules}
use Rattle.row_sorter.proofs.SortedLaws.{loop-none}
use Rattle.row_sorter.proofs.sort_rows.Goals as goal

pub write_sorted-requires-clause-source : goal.write_sorted-requires-clause-source
write_sorted-requires-clause-source c = (search rules, search loop-none)
