-- `look_up_use` meets its contract: nothing is written but the literal of a use that the window has.
-- Assumes nothing.
use borrow.Author.Rules.{rules}
use Rattle.aiger_names.proofs.LookLaws.{use-missing, use-counted, use-set, node-small, double-small, literal-small, pair-room}
use Rattle.aiger_names.proofs.look_up_use.Goals as goal

pub returns-then-node-window : goal.returns-then-node-window
returns-then-node-window c = search use-missing

pub overflow_cast-value : goal.overflow_cast-value
overflow_cast-value c = search (node-small, rules)

pub overflow_mul-value : goal.overflow_mul-value
overflow_mul-value c = search (double-small, rules)

pub overflow_add-value : goal.overflow_add-value
overflow_add-value c = search (literal-small, rules)

pub write_u16-requires : goal.write_u16-requires
write_u16-requires c = search pair-room

pub returns-then-fits : goal.returns-then-fits
returns-then-fits c = search use-set

pub returns-else-fits : goal.returns-else-fits
returns-else-fits c = search use-counted
