-- `loop_way::find_in_pairs` looks for a way among the pairs that the names leave, if the rows fit a file and the names are right.
-- Assumes nothing.
use borrow.Author.Rules.{rules}
use Rattle.import.proofs.OutcomeLaws.{lines-source}
use Rattle.loop_way.proofs.WayLaws.{no_way, pairs-room, pairs-slots, way-in-text}
use Rattle.loop_way.proofs.find_in_pairs.Goals as goal

pub returns-then-not-fits : goal.returns-then-not-fits
returns-then-not-fits c = search no_way

pub names_right-requires : goal.names_right-requires
names_right-requires c = (search rules, search (pairs-room, rules))

pub returns-then-not-names_right : goal.returns-then-not-names_right
returns-then-not-names_right c = search no_way

pub find_in-requires : goal.find_in-requires
find_in-requires c = (search (lines-source, rules), search (pairs-slots, rules))

pub returns : goal.returns
returns c = search (way-in-text, rules)
