use Rattle.std.proofs.Common.{rules}
use Rattle.name_marks.proofs.EarlierLaws.{row-few, row_inside}
use Rattle.accept.proofs.RowCheckLaws.{passed_none, all-rows, row_below, tests-read, sum_fits, rows-stop, rows-again, outputs-few, rows-no-output, rows_right}
use Rattle.accept.proofs.RefusalLaws.{handed-on}
use Rattle.accept.proofs.check_each_row.Goals as goal

pub loop-row-init : goal.loop-row-init
loop-row-init c = search (passed_none, rules)

pub read_row-fields-requires : goal.read_row-fields-requires
read_row-fields-requires c = search (row-few, row_inside)

pub check_row-requires : goal.check_row-requires
check_row-requires c = search (all-rows, row_below, tests-read)

pub returns-in_err-check_row : goal.returns-in_err-check_row
returns-in_err-check_row c = rw (handed-on c.from_residual.result c.from_residual.ensures.1) (search (rows-stop, c.in_err-check_row.was))

pub overflow_add-tally : goal.overflow_add-tally
overflow_add-tally c = search sum_fits

pub loop-row-preserved : goal.loop-row-preserved
loop-row-preserved c = search (rows-again, c.in_ok-check_row.was)

pub counts_of-counts-requires : goal.counts_of-counts-requires
counts_of-counts-requires c = search outputs-few

pub returns-then-counts-eq0 : goal.returns-then-counts-eq0
returns-then-counts-eq0 c = search rows-no-output

pub returns-else-counts-eq0 : goal.returns-else-counts-eq0
returns-else-counts-eq0 c = search rows_right
