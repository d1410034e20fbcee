-- `sort_rows` meets its contract: a gate that is never placed is a loop's refusal.
-- Assumes nothing.
use borrow.Author.Rules.{rules}
use Rattle.sort.proofs.OutcomeLaws.{file-sorted, sortable-source}
use Rattle.row_sorter.proofs.SortedLaws.{rows-looped, rows-sorted}
use Rattle.sort.proofs.sort_rows.Goals as goal

pub returns-then-first-rows : goal.returns-then-first-rows
returns-then-first-rows c = record { rows_sorted = search (file-sorted, rows-looped, sortable-source); work_len_unchanged = search rules }

pub returns : goal.returns
returns c = record { rows_sorted = search (file-sorted, rows-sorted, sortable-source); work_len_unchanged = search rules }
