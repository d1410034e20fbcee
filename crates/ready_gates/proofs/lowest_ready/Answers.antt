-- `lowest_ready` meets its contract: the rest of the group of `low` is sought through, then the groups that follow.
-- Assumes nothing.
use borrow.Author.Rules.{rules}
use Rattle.ready_gates.proofs.ReadyLaws.{slots_same, lowest-found, group-passed}
use Rattle.ready_gates.proofs.lowest_ready.Goals as goal

pub lowest_from-requires : goal.lowest_from-requires
lowest_from-requires c = search (group-passed, rules)

pub returns-then-row-end-clause-value : goal.returns-then-row-end-clause-value
returns-then-row-end-clause-value c = search (lowest-found, slots_same)
