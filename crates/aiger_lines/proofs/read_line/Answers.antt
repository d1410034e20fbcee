-- `read_line` meets its contract: one, two or three fields, the last of which ends the line.
-- Assumes nothing.
use Rattle.aiger_lines.proofs.FieldLaws.{none_first, one_number, none-second, two-numbers, none-third, three-numbers, four-numbers}
use Rattle.aiger_lines.proofs.read_line.Goals as goal

pub returns-in-Other-clause-result_value : goal.returns-in-Other-clause-result_value
returns-in-Other-clause-result_value c = search none_first

pub returns-in-Last-clause-result_value : goal.returns-in-Last-clause-result_value
returns-in-Last-clause-result_value c = search one_number

pub returns-in-Other-read_field-clause-result_value : goal.returns-in-Other-read_field-clause-result_value
returns-in-Other-read_field-clause-result_value c = search none-second

pub returns-in-Last-read_field-clause-result_value : goal.returns-in-Last-read_field-clause-result_value
returns-in-Last-read_field-clause-result_value c = search two-numbers

pub returns-in-Last-read_field-2-clause-result_value : goal.returns-in-Last-read_field-2-clause-result_value
returns-in-Last-read_field-2-clause-result_value c = search three-numbers

pub returns-in-Next-read_field-2-clause-result_value : goal.returns-in-Next-read_field-2-clause-result_value
returns-in-Next-read_field-2-clause-result_value c = search four-numbers

pub returns-in-Other-read_field-2-clause-result_value : goal.returns-in-Other-read_field-2-clause-result_value
returns-in-Other-read_field-2-clause-result_value c = search none-third
