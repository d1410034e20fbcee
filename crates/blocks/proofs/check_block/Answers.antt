-- `check_block` meets its contract: its answer is the first of questions 2 to 5 that the block answers with no.
-- Assumes nothing.
use Rattle.blocks.proofs.BlockLaws.{no-sum, no_header, no-count, no-unused, all_right, count_most}
use Rattle.blocks.proofs.check_block.Goals as goal

pub returns-then-not-summed : goal.returns-then-not-summed
returns-then-not-summed c = search no-sum

pub returns-then-not-headed : goal.returns-then-not-headed
returns-then-not-headed c = search no_header

pub returns-then-not-counted : goal.returns-then-not-counted
returns-then-not-counted c = search no-count

pub unused_right-requires : goal.unused_right-requires
unused_right-requires c = search count_most

pub returns-then-not-unused_right : goal.returns-then-not-unused_right
returns-then-not-unused_right c = search no-unused

pub returns : goal.returns
returns c = search all_right
