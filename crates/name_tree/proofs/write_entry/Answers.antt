-- `write_entry` meets its contract: the number, and 0 for both children.
-- Assumes nothing.
use borrow.Author.Rules.{rules}
use Rattle.name_tree.proofs.TreeLaws.{entry-written}
use Rattle.name_tree.proofs.write_entry.Goals as goal

pub returns : goal.returns
returns c = search (entry-written, rules)
