-- `accept_by` meets its contract: question 1, then the blocks, then the rows.
-- Assumes nothing.
use Rattle.accept.proofs.BlockLaws.{length_whole, blocks-few, blocks-right}
use Rattle.accept.proofs.RefusalLaws.{handed-on, length-no, blocks-no, rows_last}
use Rattle.accept.proofs.accept_by.Goals as goal

pub returns-then-not-length_right : goal.returns-then-not-length_right
returns-then-not-length_right c = search length-no

pub check_blocks-requires : goal.check_blocks-requires
check_blocks-requires c = search (length_whole, blocks-few)

pub count_rows-rows-requires : goal.count_rows-rows-requires
count_rows-rows-requires c = search (blocks-right, c.in_ok-check_blocks.was)

pub returns-in_err-check_blocks : goal.returns-in_err-check_blocks
returns-in_err-check_blocks c = rw (handed-on c.from_residual.result c.from_residual.ensures.1) (search (blocks-no, c.in_err-check_blocks.was))

pub returns : goal.returns
returns c = search (rows_last, c.in_ok-check_blocks.was)
