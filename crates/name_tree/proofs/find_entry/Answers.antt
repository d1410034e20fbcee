-- `find_entry` meets its contract: the number's entry is where the way to it ends.
-- Assumes nothing.
use borrow.Author.Rules.{rules}
use Rattle.name_tree.proofs.TreeLaws.{entry_found}
use Rattle.name_tree.proofs.find_entry.Goals as goal

pub returns : goal.returns
returns c = search (entry_found, rules)
