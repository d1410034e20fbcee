-- `ask_original` meets its contract: questions 11 to 13 in turn, then 14 and 15.
-- Assumes nothing.
use Rattle.fold_refusals.proofs.EarlyLaws.{rows-no, registers-no, phase-no, original-passed}
use Rattle.fold_refusals.proofs.asking.ask_original.Goals as goal

pub returns-then-rows-gt-MOST_ORIGINAL_ROWS : goal.returns-then-rows-gt-MOST_ORIGINAL_ROWS
returns-then-rows-gt-MOST_ORIGINAL_ROWS c = search rows-no

pub returns-then-counts-gt-MOST_ORIGINAL_REGISTERS : goal.returns-then-counts-gt-MOST_ORIGINAL_REGISTERS
returns-then-counts-gt-MOST_ORIGINAL_REGISTERS c = search registers-no

pub returns-in-Some : goal.returns-in-Some
returns-in-Some c = search (phase-no, c.in-Some.ensures)

pub returns-in-None : goal.returns-in-None
returns-in-None c = search (original-passed, c.in-None.ensures)
