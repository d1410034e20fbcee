use borrow.Author.Rules.{rules}
use Rattle.gate_loops.proofs.SearchLaws.{row-passed, row_settled, row-fails, all_pass}
use Rattle.gate_loops.proofs.find_loop.Goals as goal
use Rattle.gate_loops.proofs.find_loop.Goals.{else-slot_at-eq0-via-then-slot_at-eq0+else-not-settle, else-slot_at-eq0-via-else-slot_at-eq0}

pub returns-then-not-settle-clause-value : goal.returns-then-not-settle-clause-value
returns-then-not-settle-clause-value c = search (row-fails, rules)

pub loop-row-preserved : goal.loop-row-preserved
loop-row-preserved c = elim c.else-slot_at-eq0.branch [ else-slot_at-eq0-via-then-slot_at-eq0+else-not-settle w ↦ search (row_settled, rules) | else-slot_at-eq0-via-else-slot_at-eq0 w ↦ search (row-passed, rules) ]

pub returns-clause-value : goal.returns-clause-value
returns-clause-value c = search (all_pass, rules)
