-- `loop_way::find_way` looks for a way in a file that passes questions 1 to 10, where gates may stand in any order.
-- Assumes nothing.
use Rattle.loop_way.proofs.WayLaws.{way-in-file, accepted-source, slots-enough}
use borrow.Author.Rules.{rules}
use Rattle.loop_way.proofs.find_way.Goals as goal

pub find_in-requires : goal.find_in-requires
find_in-requires c = (search accepted-source, search (slots-enough, rules))

pub returns : goal.returns
returns c = search way-in-file
