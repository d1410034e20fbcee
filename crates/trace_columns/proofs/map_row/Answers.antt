-- `map_row` meets its contract.
-- Assumes nothing.
use borrow.Author.Rules.{rules}
use Rattle.trace_columns.proofs.ColumnLaws.{slot-inside}
use Rattle.trace_columns.proofs.map_row.Goals as goal

pub set_slot-requires : goal.set_slot-requires
set_slot-requires c = search (slot-inside, rules)
