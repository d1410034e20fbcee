-- `sort_pairs` meets its contract: a gate that is never placed is a loop's refusal.
-- Assumes nothing.
use borrow.Author.Rules.{rules}
use Rattle.row_sorter.proofs.SortedLaws.{rows-looped, rows-sorted}
use Rattle.import.proofs.OutcomeLaws.{file-room, slots-room}
use Rattle.import.proofs.sort_pairs.Goals as goal

pub sort_rows-first-requires : goal.sort_rows-first-requires
sort_rows-first-requires c = (search rules, (search file-room, search slots-room))

pub returns-then-first-rows : goal.returns-then-first-rows
returns-then-first-rows c = record { rows_sorted = search rows-looped; slots_len_unchanged = search rules }

pub returns : goal.returns
returns c = record { rows_sorted = search rows-sorted; slots_len_unchanged = search rules }
