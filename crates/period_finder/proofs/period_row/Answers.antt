-- `period_row` meets its contract: a register's byte becomes its period, any other row's 0.
-- Assumes nothing.
use Rattle.ternary_step.proofs.StepLaws.{number-yes, number-no, count_fits, values-set}
use Rattle.period_finder.proofs.PeriodLaws.{states-few, register-number, period-put, no-period-put}
use borrow.Author.Rules.{rules}
use Rattle.period_finder.proofs.period_row.Goals as goal

pub short_period-requires : goal.short_period-requires
short_period-requires c = search (states-few, register-number, rules)

pub overflow_add-result : goal.overflow_add-result
overflow_add-result c = search count_fits

pub returns-then-fields-eq2 : goal.returns-then-fields-eq2
returns-then-fields-eq2 c = search (number-yes, values-set, period-put, rules)

pub returns : goal.returns
returns c = search (number-no, values-set, no-period-put, rules)
