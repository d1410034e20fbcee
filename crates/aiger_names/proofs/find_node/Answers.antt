-- `find_node` meets its contract: an entry of the tree, or a variable below the window's end.
-- Assumes nothing.
use borrow.Author.Rules.{rules}
use Rattle.aiger_names.proofs.LookLaws.{in_tree, in-tree-fits, in-run, not-in-run}
use Rattle.aiger_names.proofs.find_node.Goals as goal

pub returns-then-window : goal.returns-then-window
returns-then-window c = in_tree _ _ _ _ _ (search rules) (search rules) (search rules)

pub returns-then-node-window : goal.returns-then-node-window
returns-then-node-window c = in-run _ _ _ _ (search rules) (search rules)

pub returns-else-node-window : goal.returns-else-node-window
returns-else-node-window c = not-in-run _ _ _ _ (search rules) (search rules)

pub overflow_add-result : goal.overflow_add-result
overflow_add-result c = record { fits = search (in-tree-fits, rules) }
