-- `source_row` meets its contract: a file's row is read, a pair's is made.
-- Assumes nothing.
use borrow.Author.Rules.{rules}
use Rattle.gate_rows.proofs.SourceLaws.{row-few, file-inside, file-row, pair-stands, pair-row}
use Rattle.gate_rows.proofs.source_row.Goals as goal

pub read_row-requires : goal.read_row-requires
read_row-requires c = search (row-few, file-inside, rules)

pub pair_fields-requires : goal.pair_fields-requires
pair_fields-requires c = search pair-stands

pub returns-in-File : goal.returns-in-File
returns-in-File c = search (file-row, rules)

pub returns-in-Pairs : goal.returns-in-Pairs
returns-in-Pairs c = search (pair-row, rules)
