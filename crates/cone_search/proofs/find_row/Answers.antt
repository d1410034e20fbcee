-- `find_row` meets its contract: a row is found once, and there is room for it.
-- Assumes nothing.
use borrow.Author.Rules.{rules}
use Rattle.cone_search.proofs.MarkLaws.{pushed-out, found_before, count_fits, list-room, found-now}
use Rattle.cone_search.proofs.find_row.Goals as goal

pub returns-then-rows-row : goal.returns-then-rows-row
returns-then-rows-row c = search pushed-out

pub returns-then-slot-ge-MARK : goal.returns-then-slot-ge-MARK
returns-then-slot-ge-MARK c = search found_before

pub list_row-requires : goal.list_row-requires
list_row-requires c = search (list-room, rules)

pub overflow_add-result : goal.overflow_add-result
overflow_add-result c = search count_fits

pub returns : goal.returns
returns c = search found-now
