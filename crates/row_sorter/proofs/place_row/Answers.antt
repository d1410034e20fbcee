-- A row's new place is a row of the file.
use borrow.Author.Rules.{rules}
use Rattle.row_sorter.proofs.WriteLaws.{to-few, to_room}
use Rattle.row_sorter.proofs.place_row.Goals as goal

pub write_row-requires-clause-row_lt_most_rows : goal.write_row-requires-clause-row_lt_most_rows
write_row-requires-clause-row_lt_most_rows c = search (to-few, to_room, rules)
