use native.Mathlib.Omega.{arith}
use borrow.Author.Rules.{rules}
use Rattle.ready_gates.proofs.ReadyLaws.{mark-kept, lowest-found, lowest-none, group-passed, group-unmarked, mark-cleared}
use Rattle.ready_gates.proofs.lowest_from.Goals as goal
use Rattle.ready_gates.proofs.lowest_from.Goals.{then-work-mark-ne0+else-row-end, else-work-mark-ne0}

pub returns-then-row-end-clause-value : goal.returns-then-row-end-clause-value
returns-then-row-end-clause-value c = search (lowest-found, rules)

pub loop-group-preserved : goal.loop-group-preserved
loop-group-preserved c = elim c.if-work-mark-ne0.branch [
  | then-work-mark-ne0+else-row-end w ↦ rw w.work-is (search mark-kept, search (mark-cleared, group-passed, rules))
  | else-work-mark-ne0 w ↦ rw w.work-is (search rules, search (group-unmarked, rules))
]

pub returns-clause-value : goal.returns-clause-value
returns-clause-value c = lowest-none c.args.rows c.loop-group.work _ c.loop-group.invariant.1 c.args.work.now c.loop-group.invariant.0 (omega arith)
