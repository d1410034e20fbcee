-- `look_up_uses` meets its contract, section by section.
-- Assumes nothing.
use borrow.Author.Rules.{rules}
use Rattle.aiger_names.proofs.LookLaws.{both-few, first-room, second-ready, second-room, reset-room, input-looked, output-looked, latch-counted, latch-set, gate-looked}
use Rattle.aiger_names.proofs.look_up_uses.Goals as goal

pub look_up_use-found-requires : goal.look_up_use-found-requires
look_up_use-found-requires c = (search rules, search first-room)

pub write_u16-requires : goal.write_u16-requires
write_u16-requires c = search reset-room

pub look_up_use-requires : goal.look_up_use-requires
look_up_use-requires c = (search rules, search first-room)

pub look_up_use-first-requires : goal.look_up_use-first-requires
look_up_use-first-requires c = (search rules, search first-room)

pub look_up_use-second-requires : goal.look_up_use-second-requires
look_up_use-second-requires c = (search second-ready, search second-room)

pub overflow_add-result : goal.overflow_add-result
overflow_add-result c = search (both-few, rules)

pub returns-in-Input : goal.returns-in-Input
returns-in-Input c = search input-looked

pub returns-then-fits : goal.returns-then-fits
returns-then-fits c = search latch-set

pub returns-else-fits : goal.returns-else-fits
returns-else-fits c = search latch-counted

pub returns-in-Output : goal.returns-in-Output
returns-in-Output c = search output-looked

pub returns-in-Gate : goal.returns-in-Gate
returns-in-Gate c = search gate-looked
