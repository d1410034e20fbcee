use borrow.Author.Rules.{rules}
use Rattle.gate_loops.proofs.RowLaws.{node-unsettled, all-passed}
use Rattle.gate_loops.proofs.unsettled_operand.Goals as goal

pub returns-then-slot_at-ne-SETTLED : goal.returns-then-slot_at-ne-SETTLED
returns-then-slot_at-ne-SETTLED c = search (node-unsettled, rules)

pub returns : goal.returns
returns c = search (all-passed, rules)
