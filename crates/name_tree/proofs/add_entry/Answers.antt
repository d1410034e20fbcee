-- `add_entry` meets its contract: the number becomes the root, or a child of the entry where the way to it ends.
-- Assumes nothing.
use mathlib.Core.Bool.{true≢false, false≢true}
use borrow.Author.Rules.{rules}
use Rattle.name_tree.proofs.TreeLaws.{found_inside, open-missed, open-room, open-bit, added-root, added-child}
use Rattle.name_tree.proofs.add_entry.Goals as goal

pub returns-then-count-eq0 : goal.returns-then-count-eq0
returns-then-count-eq0 c = record { added = λ _. search added-root; number_bound = λ e. absurd (true≢false e); work_len_unchanged = search rules }

pub set_child-requires : goal.set_child-requires
set_child-requires c = search (open-room, open-bit, rules)

pub returns-in_default : goal.returns-in_default
returns-in_default c = record { added = λ e. absurd (false≢true e); number_bound = λ _. search found_inside; work_len_unchanged = search rules }

pub returns : goal.returns
returns c = record { added = λ _. search (added-child, open-missed); number_bound = λ e. absurd (true≢false e); work_len_unchanged = search rules }
