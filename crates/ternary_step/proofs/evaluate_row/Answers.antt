-- `evaluate_row` meets its contract: what it puts is the row's value in the run.
-- Assumes nothing.
use Rattle.ternary_step.proofs.StepLaws.{number_fits, value-asks, value-number, values-set, value-put}
use Rattle.ternary_step.proofs.evaluate_row.Goals as goal

pub row_value-value-requires : goal.row_value-value-requires
row_value-value-requires c = search value-asks

pub count_register-requires : goal.count_register-requires
count_register-requires c = search number_fits

pub returns : goal.returns
returns c = search (value-number, values-set, value-put)
