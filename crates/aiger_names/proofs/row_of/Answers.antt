-- `row_of` meets its contract, section by section.
-- Assumes nothing.
use Rattle.aiger_names.proofs.LookLaws.{input-row-is, latch-row-is, output-row-is, gate-row-is, gate-late}
use Rattle.aiger_names.proofs.row_of.Goals as goal

pub overflow_sub-result : goal.overflow_sub-result
overflow_sub-result c = search gate-late

pub returns-in-Input : goal.returns-in-Input
returns-in-Input c = search input-row-is

pub returns-in-Latch : goal.returns-in-Latch
returns-in-Latch c = search latch-row-is

pub returns-in-Output : goal.returns-in-Output
returns-in-Output c = search output-row-is

pub returns-in-Gate : goal.returns-in-Gate
returns-in-Gate c = search gate-row-is
