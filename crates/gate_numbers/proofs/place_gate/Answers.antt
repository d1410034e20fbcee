use borrow.Author.Rules.{rules}
use Rattle.gate_numbers.proofs.WakingLaws.{users-asleep, placed-marked, users-none, user-first, user-before, user-next, users-more, users-all}
use Rattle.gate_numbers.proofs.place_gate.Goals as goal

pub users-init : goal.users-init
users-init c = ((search rules, search users-asleep), (search users-none, (search user-first, (search placed-marked, search rules))))

pub users-smaller : goal.users-smaller
users-smaller c = search user-before

pub users-preserved : goal.users-preserved
users-preserved c = ((search rules, search), (search users-more, (search user-next, search rules)))

pub returns-clause-gate_placed : goal.returns-clause-gate_placed
returns-clause-gate_placed c = search users-all
