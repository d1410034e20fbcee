-- `read_header` meets its contract: the opening, and five fields.
-- Assumes nothing.
use Rattle.aiger_lines.proofs.HeaderLaws.{not_opened, no-maximum, no-inputs, no-latches, no-outputs, no-gates, header_is}
use Rattle.aiger_lines.proofs.read_header.Goals as goal

pub returns-then-not-opens-clause-result_value : goal.returns-then-not-opens-clause-result_value
returns-then-not-opens-clause-result_value c = search not_opened

pub returns-in_default-clause-result_value : goal.returns-in_default-clause-result_value
returns-in_default-clause-result_value c = search no-maximum

pub returns-in_default-read_field-clause-result_value : goal.returns-in_default-read_field-clause-result_value
returns-in_default-read_field-clause-result_value c = search no-inputs

pub returns-in_default-read_field-2-clause-result_value : goal.returns-in_default-read_field-2-clause-result_value
returns-in_default-read_field-2-clause-result_value c = search no-latches

pub returns-in_default-read_field-3-clause-result_value : goal.returns-in_default-read_field-3-clause-result_value
returns-in_default-read_field-3-clause-result_value c = search no-outputs

pub returns-in_default-read_field-4-clause-result_value : goal.returns-in_default-read_field-4-clause-result_value
returns-in_default-read_field-4-clause-result_value c = search no-gates

pub returns-clause-result_value : goal.returns-clause-result_value
returns-clause-result_value c = search header_is
