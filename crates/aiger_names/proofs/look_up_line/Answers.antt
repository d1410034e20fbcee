-- `look_up_line` meets its contract.
-- Assumes nothing.
use borrow.Author.Rules.{rules}
use Rattle.aiger_names.proofs.LookLaws.{row_small, row_room, line_defined, line-looked}
use Rattle.aiger_names.proofs.look_up_line.Goals as goal

pub returns-then-defined_before : goal.returns-then-defined_before
returns-then-defined_before c = record { line_looked_is = search line_defined; work_len_unchanged = search rules }

pub look_up_uses-requires : goal.look_up_uses-requires
look_up_uses-requires c = record { window_ready = (search rules, search row_small); pair_room = search row_room }

pub returns-else-defined_before : goal.returns-else-defined_before
returns-else-defined_before c = record { line_looked_is = search line-looked; work_len_unchanged = search rules }
