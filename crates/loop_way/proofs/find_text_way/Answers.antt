-- `loop_way::find_text_way` looks for a way in a text whose lines are right by themselves.
-- Assumes nothing.
use borrow.Author.Rules.{rules}
use Rattle.import.proofs.OutcomeLaws.{header_is, header-inside, header-few, header-counted}
use Rattle.loop_way.proofs.WayLaws.{no_way}
use Rattle.loop_way.proofs.find_text_way.Goals as goal

pub returns-then-list-lt-LARGE_WORK_BYTES : goal.returns-then-list-lt-LARGE_WORK_BYTES
returns-then-list-lt-LARGE_WORK_BYTES c = search no_way

pub lines_right-requires : goal.lines_right-requires
lines_right-requires c = record { text_value = (search header_is, search header-inside); few_header = search header-few }

pub find_in_lines-requires : goal.find_in_lines-requires
find_in_lines-requires c = (search header-counted, search rules)

pub returns-in_default : goal.returns-in_default
returns-in_default c = search no_way

pub returns-else-lines_right : goal.returns-else-lines_right
returns-else-lines_right c = search no_way
