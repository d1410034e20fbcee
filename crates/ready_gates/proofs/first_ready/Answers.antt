use borrow.Author.Rules.{rules}
use Rattle.ready_gates.proofs.ReadyLaws.{first-at, first_past}
use Rattle.ready_gates.proofs.first_ready.Goals as goal

pub returns-then-slot_at-eq-READY : goal.returns-then-slot_at-eq-READY
returns-then-slot_at-eq-READY c = search (first-at, rules)

pub returns : goal.returns
returns c = search (first_past, rules)
