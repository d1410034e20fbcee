-- `entry_row` meets its contract: the label is the register's field b.
-- Assumes nothing.
use Rattle.clock_words.proofs.EntryLaws.{entry-fits, entry-few}
use borrow.Author.Rules.{rules}
use Rattle.clock_words.proofs.entries.entry_row.Goals as goal

pub put_entry-requires : goal.put_entry-requires
put_entry-requires c = search (entry-few, rules)

pub overflow_add-result : goal.overflow_add-result
overflow_add-result c = search entry-fits
